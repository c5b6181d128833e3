-- Where a name leads (OMG's Naming Service, "Resolution of Compound Names"): each component but the last is to be bound
-- to a context, and the rest of the name goes on in that context.
use Rattle.std.specs.Prelude.{ℕ, cond, List, [], ◌∷◌, Option, Some, None, Result, Ok, Err}
use Rattle.td_names.specs.declared.act.NameAnswer.{NameAnswer}
use Rattle.td_names.specs.declared.act.NameAnswer.TheVariants.{User, System}
use Rattle.td_names.specs.declared.act.NameException.TheVariants as fault
use Rattle.td_names.specs.declared.act.NameRefusal.TheVariants.{ImpLimit}
use Rattle.td_names.specs.declared.component.Bound.{Bound}
use Rattle.td_names.specs.declared.component.NameComponent.{NameComponent}
use Rattle.td_names.specs.Limits.{name_fits}
use Rattle.td_names.specs.References.{context_of_reference}
use Rattle.td_names.specs.Stores.{Store, bound_in, is_live}

-- the reasons of NotFound
abbrev pub missing_node : ℕ
missing_node = 0

abbrev pub not_context : ℕ
not_context = 1

abbrev pub not_object : ℕ
not_object = 2

abbrev pub not_found : ℕ → List NameComponent → NameAnswer
not_found why rest = User (fault.NotFound why rest)

-- the context of this number, where it is live
abbrev pub if_live : Store → Option ℕ → Option ℕ
if_live s None = None
if_live s (Some n) = cond (is_live s n) (Some n) None

-- the live context here that a binding leads to
abbrev pub next_context : Store → Bound → Option ℕ
next_context s b = if_live s (context_of_reference s.home b.object)

abbrev pub through_context : Option ℕ → Bound → List NameComponent → (ℕ → Result ℕ NameAnswer)
    → Result ℕ NameAnswer
through_context None b rest go = Err (User (fault.CannotProceed b.object rest))
through_context (Some d) b rest go = go d

-- on through what is bound under the first component, with the name and with what is left of it behind that one
abbrev pub through : Store → Option Bound → (name rest : List NameComponent)
    → (ℕ → Result ℕ NameAnswer) → Result ℕ NameAnswer
through s None name rest go = Err (not_found missing_node name)
through s (Some b) name rest go =
    cond b.context (through_context (next_context s b) b rest go) (Err (not_found not_context name))

-- the context in which the last component of a name is looked up, or why there is none
abbrev pub holder : Store → ℕ → List NameComponent → Result ℕ NameAnswer
holder s c [] = Err (User fault.InvalidName)
holder s c (k ∷ []) = Ok c
holder s c (k ∷ l ∷ ks) = through s (bound_in s c k) (k ∷ l ∷ ks) (l ∷ ks)
    (λ d. holder s d (l ∷ ks))

-- the same, with the limits of a name before
abbrev pub place : Store → ℕ → List NameComponent → Result ℕ NameAnswer
place s c name = cond (name_fits name) (holder s c name) (Err (System ImpLimit))

abbrev pub nobody : NameComponent
nobody = record { id = []; kind = [] }

abbrev pub last_in : NameComponent → List NameComponent → NameComponent
last_in k [] = k
last_in k (l ∷ ks) = last_in l ks

-- the last component of a name
abbrev pub last_of : List NameComponent → NameComponent
last_of name = last_in nobody name
