-- What the map finds with one identifier more, and with one less.
use Rattle.std.proofs.Common.{◌≡◌, true≢false, ℕ, ◌+◌, ◌-◌, ◌<◌, ◌≤◌, Bool, true, false, cond, nat_lt, List, []}
use Rattle.std.proofs.Common.{◌∷◌, ◌++◌, length, drop, Option, Some, None, Vec, Global, slice_get, is_some}
use Rattle.std.proofs.Common.{if◌then◌else◌, ltb-true, ltb-false, refl, sym, ap, ◌∙◌, subst, arith}
use Rattle.std.proofs.Common.{inl, inr, bytes_eq, length-append}
use Rattle.std.specs.Cmp.Lexicographic.{nat_list_eq_equiv}
use Rattle.std.specs.List.{IsDistinct, AllByRecursion, list_any}
use Rattle.std.specs.Map.{lookup, IsKeyTest, AreApart, KeepsOthers}
use Rattle.std.proofs.lemmas.Bool.{cases_Bool}
use Rattle.std.proofs.lemmas.Map.Keys.{IsDistinct-head}
use Rattle.std.proofs.lemmas.Slice.Eq.{bytes_eq-Decides}
use Rattle.circular_buffer.specs.Buffer.{buffer}
use Rattle.td_cdr.specs.Marks.{Marks, RememberedMark, entry_of, remembered}
use Rattle.td_marks.specs.Keeping.{number_marks, with_kept, MarkEntries, same_key, is_key, FindsIdentifiers}
use Rattle.td_marks.specs.Keeping.{AddsIdentifier, Forgets}

symm : (a b : List ℕ) → bytes_eq a b ≡ bytes_eq b a
symm = nat_list_eq_equiv.symm

congr : (a b c : List ℕ) → bytes_eq a b ≡ true → bytes_eq a c ≡ bytes_eq b c
congr = nat_list_eq_equiv.congr

-- ---- an identifier that isn't kept

pub none_alike : (m : Marks) (k : ℕ) (i : List ℕ) (is : List (List ℕ))
    → remembered (with_kept m (number_marks k is)) i ≡ None → list_any (bytes_eq i) is ≡ false
none_alike m k i [] e = refl
none_alike m k i (j ∷ is) e =
    elim (cases_Bool (bytes_eq j i)) [
      | inl same ↦ absurd (true≢false (ap is_some (sym (found same) ∙ e)))
      | inr other ↦
          let apart : bytes_eq i j ≡ false = symm i j ∙ other in
          rw apart (none_alike m (k + 1) i is (sym (past other) ∙ e))
    ]
  where
    found : bytes_eq j i ≡ true → remembered (with_kept m (number_marks k (j ∷ is))) i ≡ Some (k + 1)
    found same = rw same refl

    past : bytes_eq j i ≡ false
        → remembered (with_kept m (number_marks k (j ∷ is))) i ≡ remembered (with_kept m (number_marks (k + 1) is)) i
    past other = rw other refl

none_named : (m : Marks) (k : ℕ) (i : List ℕ) (is : List (List ℕ)) → AllByRecursion (λ j. bytes_eq i j ≡ false) is
    → remembered (with_kept m (number_marks k is)) i ≡ None
none_named m k i [] d = refl
none_named m k i (j ∷ is) d =
    let other : bytes_eq j i ≡ false = symm j i ∙ d.0 in
    rw other (none_named m (k + 1) i is d.1)

-- ---- one more

abbrev or_else : Option ℕ → Option ℕ → Option ℕ
or_else None b = b
or_else (Some x) b = Some x

lookup-push : (t : Vec ℕ Global → Bool) (es : MarkEntries) (key : Vec ℕ Global) (n : ℕ)
    → lookup t (es ++ (key, n) ∷ []) ≡ or_else (lookup t es) (cond (t key) (Some n) None)
lookup-push t [] key n = refl
lookup-push t (e ∷ es) key n =
    elim (cases_Bool (t e.0)) [
      | inl here ↦ rw here refl
      | inr other ↦ rw other (lookup-push t es key n)
    ]

number-push : (m : Marks) (j : List ℕ) (kept : List RememberedMark) (i : List ℕ) (n : ℕ)
    → remembered (with_kept m (kept ++ entry_of i n ∷ [])) j
    ≡ or_else (remembered (with_kept m kept) j) (cond (bytes_eq i j) (Some n) None)
number-push m j [] i n =
    elim (cases_Bool (bytes_eq i j)) [ inl here ↦ rw here refl | inr other ↦ rw other refl ]
number-push m j (e ∷ kept) i n =
    elim (cases_Bool (bytes_eq e.identifier j)) [
      | inl here ↦ rw here refl
      | inr other ↦ rw other (number-push m j kept i n)
    ]

pub is_entered : (entries more : MarkEntries) (key : Vec ℕ Global) (i : List ℕ) (n : ℕ) → more ≡ entries ++ (key, n) ∷ []
    → key.items ≡ i → AddsIdentifier entries i n more
is_entered entries more key i n e is m finds j =
    let test : is_key j key ≡ bytes_eq i j = ap (bytes_eq j) is ∙ symm j i in
    ap (lookup (is_key j)) e
    ∙ (lookup-push (is_key j) entries key n
    ∙ (ap (λ (b : Bool). or_else (lookup (is_key j) entries) (cond b (Some n) None)) test
    ∙ (ap (λ (o : Option ℕ). or_else o (cond (bytes_eq i j) (Some n) None)) (finds j)
    ∙ sym (number-push m j m.kept i n))))

-- ---- the oldest one less

key_test : (i : List ℕ) → IsKeyTest same_key (is_key i)
key_test i x y same = congr i x.items y.items same

apart : (o i : List ℕ) → bytes_eq o i ≡ false → AreApart (is_key o) (is_key i)
apart o i other key here = symm i key.items ∙ (sym (congr o key.items i here) ∙ other)

left_over : (entries left : MarkEntries) (m : Marks) (o : List ℕ) (is : List (List ℕ)) (k : ℕ)
    → IsDistinct bytes_eq (o ∷ is) → lookup (is_key o) left ≡ None → KeepsOthers same_key (is_key o) entries left
    → FindsIdentifiers entries (with_kept m (number_marks k (o ∷ is))) → FindsIdentifiers left (with_kept m (number_marks (k + 1) is))
unfolding KeepsOthers
left_over entries left m o is k d gone keeps finds j =
    elim (cases_Bool (bytes_eq o j)) [
      | inl same ↦
          subst (λ (x : List ℕ). lookup (is_key x) left ≡ remembered (with_kept m (number_marks (k + 1) is)) x)
          ((bytes_eq-Decides o j).0 same)
          (gone ∙ sym (none_named m (k + 1) o is (IsDistinct-head bytes_eq o is d)))
      | inr other ↦ keeps (is_key j) (key_test j) (apart o j other) ∙ (finds j ∙ past other)
    ]
  where
    past : bytes_eq o j ≡ false
        → remembered (with_kept m (number_marks k (o ∷ is))) j ≡ remembered (with_kept m (number_marks (k + 1) is)) j
    past other = rw other refl

-- ---- what the ring gave up

abbrev Gives : List (List ℕ) → List ℕ → ℕ → Option (List ℕ) → Type 0
Gives is i room None = length is < room
Gives is i room (Some o) = (room ≤ length is) × (is ++ i ∷ [] ≡ o ∷ drop 1 (is ++ i ∷ []))

first_of_all : (is : List (List ℕ)) (i : List ℕ) (room : ℕ) → room ≤ length is
    → Gives is i room (slice_get (is ++ i ∷ []) 0)
first_of_all [] i room full = (full, refl)
first_of_all (j ∷ is) i room full = (full, refl)

gives : (is : List (List ℕ)) (i : List ℕ) (room : ℕ) (b : Bool) → nat_lt (length is) room ≡ b
    → Gives is i room (if b then None else slice_get (is ++ i ∷ []) 0)
gives is i room true test = ltb-true (length is) room test
gives is i room false test = first_of_all is i room (ltb-false (length is) room test)

given : (is : List (List ℕ)) (i : List ℕ) (room : ℕ) (o : Option (List ℕ))
    → o ≡ (if nat_lt (length is) room then None else slice_get (is ++ i ∷ []) 0) → Gives is i room o
given is i room o e = subst (Gives is i room) (sym e) (gives is i room (nat_lt (length is) room) refl)

-- nothing is forgotten
pub forgets_none : (is : List (List ℕ)) (i : List ℕ) (room : ℕ) (entries left : MarkEntries)
    → None ≡ (if nat_lt (length is) room then None else slice_get (is ++ i ∷ []) 0) → left ≡ entries
    → Forgets (buffer (is ++ i ∷ []) room) entries left
forgets_none is i room entries left e same m k fits d finds =
    let less = given is i room None e in
    let long = length-append is (i ∷ []) in
    let none : length (is ++ i ∷ []) - room ≡ 0 = omega arith in
    let start : k ≡ k + 0 = omega arith in
    subst (λ (n : ℕ). FindsIdentifiers left (with_kept m (number_marks (k + n) (drop n (is ++ i ∷ []))))) (sym none)
    (subst (λ (n : ℕ). FindsIdentifiers left (with_kept m (number_marks n (is ++ i ∷ [])))) start
    (subst (λ (es : MarkEntries). FindsIdentifiers es (with_kept m (number_marks k (is ++ i ∷ [])))) (sym same) finds))

-- the oldest one is
pub forgets_one : (is : List (List ℕ)) (i : List ℕ) (room : ℕ) (o : List ℕ) (entries left : MarkEntries)
    → Some o ≡ (if nat_lt (length is) room then None else slice_get (is ++ i ∷ []) 0)
    → lookup (is_key o) left ≡ None → KeepsOthers same_key (is_key o) entries left
    → Forgets (buffer (is ++ i ∷ []) room) entries left
forgets_one is i room o entries left e gone keeps m k fits d finds =
    let g = given is i room (Some o) e in
    let full = g.0 in
    let long = length-append is (i ∷ []) in
    let one : length (is ++ i ∷ []) - room ≡ 1 = omega arith in
    subst (λ (n : ℕ). FindsIdentifiers left (with_kept m (number_marks (k + n) (drop n (is ++ i ∷ []))))) (sym one)
    (left_over entries left m o (drop 1 (is ++ i ∷ [])) k (subst (IsDistinct bytes_eq) g.1 d) gone keeps
    (subst (λ (l : List (List ℕ)). FindsIdentifiers entries (with_kept m (number_marks k l))) g.1 finds))
