-- What was noted, in order.
use Rattle.std.specs.Prelude.{List, [], ◌∷◌, ◌++◌}
use Rattle.td_ghost_list.specs.declared.past.Past.{Past, Start, Next'}

abbrev pub entries_of : {E : Type 0} → Past E → List E
entries_of Start = []
entries_of (Next' marker before entry) = entries_of before ++ entry.value ∷ []
