-- What an answer unfolds to read a file that is written out.
use Rattle.std.specs.Prelude.{⊤}
use Rattle.td_ior.specs.Number.{number_below}
use Rattle.td_lines.specs.Heads.{with_address, with_iiop, with_set, with_trader}
use Rattle.td_lines.specs.Keywords.{begin_of}
use Rattle.td_lines.specs.Linked.{with_link}
use Rattle.td_lines.specs.Scripts.{script_of}
use Rattle.td_lines.specs.Steps.{with_begin, with_line}
use Rattle.td_lines.specs.Typed.{with_prop, with_type}
use Rattle.td_lines.specs.Words.{cut_word, four_words, one_word, three_words, two_words, words}

-- its lines, and its address
unfoldable pub address_on_literals : ⊤
unfolding script_of with_line begin_of cut_word with_begin with_address two_words number_below
address_on_literals = tt

-- and its traders
unfoldable pub traders_on_literals : ⊤
unfolding address_on_literals with_trader one_word
traders_on_literals = tt

-- and its version
unfoldable pub version_on_literals : ⊤
unfolding traders_on_literals with_iiop
version_on_literals = tt

-- and their types
unfoldable pub types_on_literals : ⊤
unfolding traders_on_literals with_type with_prop three_words words
types_on_literals = tt

-- and their links and attributes
unfoldable pub links_on_literals : ⊤
unfolding traders_on_literals with_link four_words with_set
links_on_literals = tt
