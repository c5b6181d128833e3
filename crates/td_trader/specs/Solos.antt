-- A group of traders that one session has alone.
use Rattle.std.proofs.Common.{subst, sym}
use Rattle.std.specs.Prelude.{◌≡◌, ℕ, zero, suc, ◌+◌, List, [], ◌∷◌, ◌++◌, map}
use Rattle.std.specs.List.{IsDistinct}
use Rattle.std.specs.Str.{bytes_eq}
use Rattle.td_cdr.specs.Marks.{Later, Marks}
use Rattle.td_cdr.proofs.Marking.{later_itself}
use Rattle.td_trader.specs.Admitted.{AreAdmitted}
use Rattle.td_trader.specs.PlainTraders.{PlainTrader}
use Rattle.td_trader.specs.Worlds.{View, view_of}
use Rattle.td_register.specs.declared.history.Accepted.{Accepted}

-- the numbers from k on, as many as there are entries
abbrev pub places : ℕ → List Accepted → List ℕ
places k [] = []
places k (e ∷ es) = k ∷ places (k + 1) es

-- the numbers from 1 to n
abbrev pub up_to : ℕ → List ℕ
up_to zero = []
up_to (suc n) = up_to n ++ suc n ∷ []

-- every place and every mark is one's own
abbrev pub solo_view : PlainTrader → View
solo_view t = view_of t (places 0 t.history) (up_to t.marks.count)

-- others change nothing, and mark nothing
abbrev pub no_changes : List Accepted → Type 0
no_changes between = between ≡ []

abbrev pub same_marks : Marks → Marks → Type 0
same_marks before after = after ≡ before

-- no change is one that can be written
pub nothing_admitted : (between : List Accepted) → no_changes between → AreAdmitted between
nothing_admitted between none = subst AreAdmitted (sym none) tt

-- marks that stay as they are are later ones
pub unchanged_later : (a b : Marks) → same_marks a b → Later a b
unchanged_later a b e = subst (Later a) (sym e) (later_itself a)

-- no two traders have one name
abbrev pub AreDistinct : List PlainTrader → Type 0
AreDistinct ts = IsDistinct bytes_eq (map (λ (t : PlainTrader). t.name) ts)
