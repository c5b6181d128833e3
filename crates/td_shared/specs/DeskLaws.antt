-- The laws of what sessions see of a desk, beside each other.
use Rattle.std.proofs.Common.{◌≡◌, ◌⊎◌, ℕ, List, refl, sym, subst}
use Rattle.td_cdr.specs.Marks.{In}
use Rattle.td_cell.proofs.Lists.{has-merge, in-merge, merge-apart}
use Rattle.td_cell.specs.Lists.{Rises, itself}
use Rattle.td_desk.specs.BookLaws.{goes_on_itself, goes_on_more}
use Rattle.td_shared.specs.DeskSeen.{DeskContinues, DeskJoins, DeskSeen, bare_desk}

pub desk_itself : (d : DeskSeen) → DeskContinues d d
desk_itself d = goes_on_itself d.history

pub desk_on : (d e f : DeskSeen) → DeskContinues d e → DeskContinues e f → DeskContinues d f
desk_on d e f p q = goes_on_more d.history e.history f.history p q

pub desk_to_bare : (d e : DeskSeen) → DeskContinues d e → DeskContinues d (bare_desk e)
desk_to_bare d e p = p

pub desk_bare_twice : (d : DeskSeen) → bare_desk (bare_desk d) ≡ bare_desk d
desk_bare_twice d = refl

-- a place that is own then was own before, or is the session's
pub desk_after : (d e f : DeskSeen) (place : ℕ) → DeskJoins d e f → In place f.own → In place d.own
    ⊎ In place e.own
desk_after d e f place j h = in-merge itself place d.own e.own
    (subst (λ (l : List ℕ). In place l) j.own h)

pub desk_stays : (d e f : DeskSeen) (place : ℕ) → DeskJoins d e f → In place d.own ⊎ In place e.own
    → In place f.own
desk_stays d e f place j h =
    subst (λ (l : List ℕ). In place l) (sym j.own) (has-merge itself place d.own e.own h)

-- and no place is both
pub desk_apart : (d e f : DeskSeen) (place : ℕ) → DeskJoins d e f → In place d.own → In place e.own
    → ⊥
desk_apart d e f place j h i =
    merge-apart itself d.own e.own (subst (Rises itself) j.own j.apart) place place h i refl
