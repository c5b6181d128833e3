-- The items of a sequence, read from the first to the last.
use Rattle.std.proofs.Common.{List, ◌++◌, Option, Some, None}

-- the items behind these
abbrev pub onto : {A : Type 0} → List A → Option (List A) → Option (List A)
onto xs None = None
onto xs (Some ys) = Some (xs ++ ys)
