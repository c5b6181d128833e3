-- The identifiers of queries that a trader remembers, so that it searches for none of them twice (Trading Object
-- Service, the policy request_id of a query). How many are remembered is this trader's choice.
use Rattle.std.specs.Prelude.{◌≡◌, ℕ, ◌+◌, ◌-◌, ◌<◌, ◌≤◌, ◌⊎◌, List, [], ◌∷◌, ◌++◌, nat_lt, cond, Option}
use Rattle.std.specs.Prelude.{option_map}
use Rattle.std.specs.List.{find}
use Rattle.std.specs.Str.{bytes_eq}
use Rattle.td_cdr.specs.Gap.{bytes_of}
use Rattle.td_cdr.specs.declared.order.Order.TheVariants.{Big}

-- a remembered identifier, with the number of its mark
pub record RememberedMark : Type 0 where
  pub identifier : List ℕ
  pub number : ℕ

-- How many marks were made, the counter of made identifiers, for how many there is room, and the marks that are kept.
pub record Marks : Type 0 where
  pub count : ℕ
  pub counter : ℕ
  pub ring : ℕ
  pub kept : List RememberedMark

abbrev pub entry_of : List ℕ → ℕ → RememberedMark
entry_of identifier number = record { identifier = identifier; number = number }

abbrev pub In : {X : Type 0} → X → List X → Type 0
In a [] = ⊥
In a (x ∷ xs) = (a ≡ x) ⊎ In a xs

-- the identifier is remembered under this number
abbrev pub RemembersAs : Marks → List ℕ → ℕ → Type 0
RemembersAs m identifier number = In (entry_of identifier number) m.kept

-- the number under which an identifier is remembered
abbrev pub remembered : Marks → List ℕ → Option ℕ
remembered m identifier = option_map (λ e. e.number)
    (find (λ e. bytes_eq e.identifier identifier) m.kept)

-- numbered from above first up to last
abbrev pub AreNumbered : ℕ → List RememberedMark → ℕ → Type 0
AreNumbered first [] last = first ≡ last
AreNumbered first (e ∷ es) last = (e.number ≡ first + 1) × AreNumbered (first + 1) es last

-- the last marks are kept, as many as there were or as there is room for
pub record KeepsLatest (m : Marks) : Type 0 where
  pub room : 0 < m.ring
  pub numbers : AreNumbered (m.count - m.ring) m.kept m.count

abbrev pub without_first : List RememberedMark → List RememberedMark
without_first [] = []
without_first (e ∷ es) = es

-- what is kept beside one more: all while there is room, else all but the oldest
abbrev pub kept_beside : Marks → List RememberedMark
kept_beside m = cond (nat_lt m.count m.ring) m.kept (without_first m.kept)

-- one more mark, with the next number; the counter of made identifiers is then this one
abbrev pub add_mark : Marks → List ℕ → (counter : ℕ) → Marks
add_mark m identifier counter = record {
  count = m.count + 1;
  counter = counter;
  ring = m.ring;
  kept = kept_beside m ++ entry_of identifier (m.count + 1) ∷ [];
}

-- the identifier that is made of a trader's stem and a value of its counter
abbrev pub made_identifier : (stem : List ℕ) → (value : ℕ) → List ℕ
made_identifier stem value = stem ++ bytes_of Big 8 value

-- b may be what a has become: nothing that there is room for was forgotten
pub record Later (a b : Marks) : Type 0 where
  pub ring : b.ring ≡ a.ring
  pub count : a.count ≤ b.count
  pub counter : a.counter ≤ b.counter
  pub keeps : (e : RememberedMark) → In e a.kept → b.count < e.number + a.ring → In e b.kept
  pub same : a.count ≡ b.count → b ≡ a

abbrev pub last_identifier : List RememberedMark → List ℕ
last_identifier [] = []
last_identifier (e ∷ []) = e.identifier
last_identifier (e ∷ f ∷ es) = last_identifier (f ∷ es)

-- c is b with one mark more, of an identifier that wasn't remembered
pub record NewMark (b c : Marks) : Type 0 where
  pub count : c.count ≡ b.count + 1
  pub fresh : (e : RememberedMark) → In e b.kept → e.identifier ≡ last_identifier c.kept → ⊥
  pub kept : RemembersAs c (last_identifier c.kept) c.count

-- what one more mark of an identifier that isn't remembered is to the marks before
pub record IsMarkedFrom (m n : Marks) : Type 0 where
  pub later : Later m n
  pub new : NewMark m n
  pub orderly : KeepsLatest n
