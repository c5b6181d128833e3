-- What the parts that are left make, behind what was made.
use Rattle.std.proofs.Common.{◌≡◌, ℕ, ◌+◌, ◌<◌, ◌≤◌, Bool, true, false, if◌then◌else◌, List, [], ◌++◌, length, get_or}
use Rattle.std.proofs.Common.{drop, Option, Some, None, refl, ap, sym, ◌∙◌, append_assoc, length-append, arith}
use Rattle.std.proofs.lemmas.Bool.{le-leb, lt-leb}
use Rattle.std.proofs.lemmas.List.{drop_more, drop_all, append-nil}
use Rattle.td_lang.specs.declared.expr.Part.{Part}
use Rattle.td_value.specs.declared.structures.Property.{Property}
use Rattle.td_eval.specs.Expansion.{part_text, in_front, concatenation, if_short, expansion}
use Rattle.td_eval.specs.Putting.{PutsText}

-- what the parts that are left make of what was made
abbrev pub rest_of : List ℕ → List Property → List ℕ → List Part → Option (List ℕ)
rest_of constraint map made parts = if_short (in_front (Some made) (concatenation constraint map parts))

from_nothing : (o : Option (List ℕ)) → if_short (in_front (Some []) o) ≡ if_short o
from_nothing None = refl
from_nothing (Some t) = refl

pub start : (constraint : List ℕ) (map : List Property) (parts : List Part)
    → rest_of constraint map [] parts ≡ expansion constraint map parts
start constraint map parts = from_nothing (concatenation constraint map parts)

regrouped : (made t : List ℕ) (o : Option (List ℕ))
    → in_front (Some (made ++ t)) o ≡ in_front (Some made) (in_front (Some t) o)
regrouped made t None = refl
regrouped made t (Some rest) = ap (λ x. Some x) (append_assoc made t rest)

puts : (found : Option (List ℕ)) (made now : List ℕ) (put : Bool) (o : Option (List ℕ)) → PutsText found made now put
    → put ≡ true → in_front (Some now) o ≡ in_front (Some made) (in_front found o)
puts None made now put o h t = absurd (cc)
puts (Some x) made now put o h t = ap (λ y. in_front (Some y) o) h.1 ∙ regrouped made x o

pub step : (constraint : List ℕ) (map : List Property) (made now : List ℕ) (parts : List Part) (i : ℕ) (part : Part)
    (put : Bool)
    → i < length parts → PutsText (part_text constraint map (get_or parts i part)) made now put → put ≡ true
    → rest_of constraint map now (drop (i + 1) parts) ≡ rest_of constraint map made (drop i parts)
step constraint map made now parts i part put h p t =
    ap if_short (puts (part_text constraint map (get_or parts i part)) made now put
    (concatenation constraint map (drop (i + 1) parts)) p t)
    ∙ ap (rest_of constraint map made) (sym (drop_more parts i part h))

none_put : (found : Option (List ℕ)) (made now : List ℕ) (put : Bool) (o : Option (List ℕ)) → PutsText found made now put
    → put ≡ false → if_short (in_front (Some made) (in_front found o)) ≡ None
none_put None made now put o h t = refl
none_put (Some x) made now put o h t = absurd (let e = h.0 in cc)

pub stop : (constraint : List ℕ) (map : List Property) (made now : List ℕ) (parts : List Part) (i : ℕ) (part : Part)
    (put : Bool)
    → i < length parts → PutsText (part_text constraint map (get_or parts i part)) made now put → put ≡ false
    → rest_of constraint map made (drop i parts) ≡ None
stop constraint map made now parts i part put h p t =
    ap (rest_of constraint map made) (drop_more parts i part h)
    ∙ none_put (part_text constraint map (get_or parts i part)) made now put
    (concatenation constraint map (drop (i + 1) parts)) p t

long : (made : List ℕ) (o : Option (List ℕ)) → 65536 < length made → if_short (in_front (Some made) o) ≡ None
long made None h = refl
long made (Some rest) h =
    ap (λ b. if b then Some (made ++ rest) else None)
    (lt-leb (length (made ++ rest)) 65536 (omega (arith, length-append made rest)))

pub too_long : (constraint : List ℕ) (map : List Property) (made : List ℕ) (parts : List Part) → 65536 < length made
    → rest_of constraint map made parts ≡ None
too_long constraint map made parts h = long made (concatenation constraint map parts) h

pub end : (constraint : List ℕ) (map : List Property) (made : List ℕ) (parts : List Part) (i : ℕ) → length parts ≤ i
    → length made ≤ 65536 → rest_of constraint map made (drop i parts) ≡ Some made
end constraint map made parts i h short =
    ap (rest_of constraint map made) (drop_all i parts h)
    ∙ ap (λ x. if_short (Some x)) (append-nil made)
    ∙ ap (λ b. if b then Some made else None) (le-leb (length made) 65536 short)

pub ruleset by_part = (start, step, stop, too_long, end)
