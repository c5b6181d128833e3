use Rattle.std.proofs.Common.{◌≤◌, ◌-◌, vec_len}
use Rattle.std.specs.Io.KnownBytes.{Consumes}
use Rattle.td_out.specs.Texts.{longest_text}
use Rattle.td_out.proofs.file_texts.read_text.Given as goal

-- what was read so far is the text, and it isn't too long
abbrev pub invariant-loop-text : goal.invariant-loop-text
invariant-loop-text g l = record {
  short : vec_len l.text ≤ longest_text;
  taken : Consumes (g.R.Read.remaining l.initial.reader) (g.R.Read.remaining l.reader) l.text.items;
}

abbrev pub decreases-loop-text : goal.decreases-loop-text
decreases-loop-text g l = longest_text - vec_len l.text
