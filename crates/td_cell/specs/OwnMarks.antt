-- The marks that were made through a pass.
use Rattle.std.specs.Prelude.{◌≡◌, ◌≢◌, ℕ, ◌+◌, ◌-◌, ◌^◌, ◌<◌, List, [], ◌∷◌, Some, None, nat_lt, cond, ◌⊎◌}
use Rattle.td_cdr.specs.Marks.{Marks, NewMark, In, last_identifier, made_identifier}
use Rattle.td_cell.specs.declared.pass.Mark.{Mark}

-- the mark by which b has become c: the last one kept, and the counter's value where the identifier was made
abbrev pub mark_between : Marks → Marks → Mark
mark_between b c = record {
  identifier = last_identifier c.kept;
  number = c.count;
  made = cond (nat_lt b.counter c.counter) (Some (c.counter - 1)) None;
}

-- the mark that was made between b and c, if one was
abbrev pub marks_between : Marks → Marks → List Mark
marks_between b c = cond (nat_lt b.count c.count) (mark_between b c ∷ []) []

abbrev pub number_of : Mark → ℕ
number_of m = m.number

-- the identifier was made of some stem and this value of the counter (Trading Object Service, the policy request_id of
-- a query and the attribute request_id_stem)
pub record IsMadeOf (identifier : List ℕ) (value : ℕ) : Type 0 where
  pub stem : List ℕ
  pub is : identifier ≡ made_identifier stem value
  pub below : value < 256 ^ 8

-- where the counter has risen, the last identifier is one that was made of its value
abbrev pub LastIsMade : Marks → Marks → Type 0
LastIsMade b c = b.counter < c.counter → IsMadeOf (last_identifier c.kept) (c.counter - 1)

-- b is as it was, or has one mark more, of an identifier that wasn't remembered, stated or made
abbrev pub AddsMark : Marks → Marks → Type 0
AddsMark b c = (c ≡ b) ⊎ (NewMark b c × LastIsMade b c)

-- of two marks of one identifier the later lies further on than there is room for marks; and of two whose identifiers
-- were made, the later has a greater value and another identifier
pub record Gap (ring : ℕ) (a b : Mark) : Type 0 where
  pub numbers : a.identifier ≡ b.identifier → a.number + ring < b.number
  pub values : (k l : ℕ) → a.made ≡ Some k → b.made ≡ Some l → k < l
  pub identifiers : (k l : ℕ) → a.made ≡ Some k → b.made ≡ Some l → a.identifier ≢ b.identifier

abbrev pub AreSpaced : ℕ → List Mark → Type 0
AreSpaced ring ms = (a b : Mark) → In a ms → In b ms → a.number < b.number → Gap ring a b
