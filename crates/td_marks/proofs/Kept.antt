-- What a ring keeps with one identifier more.
use Rattle.std.proofs.Common.{◌≡◌, ℕ, zero, suc, ◌+◌, ◌-◌, ◌<◌, ◌≤◌, min, Bool, true, false, cond, nat_lt}
use Rattle.std.proofs.Common.{List, [], ◌∷◌, ◌++◌, length, drop, None, ltb-true, ltb-false, refl, sym, ap, ◌∙◌}
use Rattle.std.proofs.Common.{subst, arith, length-append, length-drop, bytes_eq}
use Rattle.std.specs.Cmp.Lexicographic.{nat_list_eq_equiv}
use Rattle.std.specs.List.{IsDistinct}
use Rattle.std.specs.Map.{lookup}
use Rattle.std.proofs.lemmas.Map.Keys.{IsDistinct-tail, IsDistinct-push}
use Rattle.circular_buffer.specs.Buffer.{Buffer, buffer, keep_last}
use Rattle.td_cdr.specs.Marks.{Marks, RememberedMark, AreNumbered, IsMarkedFrom, entry_of, without_first, add_mark}
use Rattle.td_cdr.specs.Marks.{remembered}
use Rattle.td_marks.specs.Keeping.{most_kept, number_marks, marks_of, with_kept, identifiers, MarkEntries}
use Rattle.td_marks.specs.Keeping.{AddsIdentifier, Forgets}
use Rattle.td_marks.specs.Keeping.{FindsIdentifiers, IsTied, AreRingMarks}
use Rattle.td_marks.specs.Keeping.{is_key}
use Rattle.td_marks.proofs.Found.{none_alike}
use Rattle.td_marks.proofs.Free.{fresh_follow}

-- ---- identifiers with their numbers

pub length-numbered : (k : ℕ) (is : List (List ℕ)) → length (number_marks k is) ≡ length is
length-numbered k [] = refl
length-numbered k (i ∷ is) = omega (arith, length-numbered (k + 1) is)

pub identifiers-numbered : (k : ℕ) (is : List (List ℕ)) → identifiers (number_marks k is) ≡ is
identifiers-numbered k [] = refl
identifiers-numbered k (i ∷ is) = ap (λ (l : List (List ℕ)). i ∷ l) (identifiers-numbered (k + 1) is)

pub in_numbers : (k : ℕ) (is : List (List ℕ)) (n : ℕ) → k + length is ≡ n → AreNumbered k (number_marks k is) n
in_numbers k [] n e = omega (arith, e)
in_numbers k (i ∷ is) n e = (refl, in_numbers (k + 1) is n (omega (arith, e)))

pub numbered-push : (k : ℕ) (is : List (List ℕ)) (i : List ℕ) (n : ℕ) → k + length is + 1 ≡ n
    → number_marks k (is ++ i ∷ []) ≡ number_marks k is ++ entry_of i n ∷ []
numbered-push k [] i n e = ap (λ (m : ℕ). entry_of i m ∷ []) (let z : k + 1 ≡ n = omega (arith, e) in z)
numbered-push k (j ∷ is) i n e =
    ap (λ (es : List RememberedMark). entry_of j (k + 1) ∷ es) (numbered-push (k + 1) is i n (omega (arith, e)))

-- ---- the marks with one more

kept_by : (count size : ℕ) (is new : List (List ℕ)) (i : List ℕ) (b : Bool) → nat_lt count size ≡ b → 0 < size
    → length is ≡ min count size → new ≡ keep_last size (is ++ i ∷ [])
    → number_marks (count + 1 - length new) new
    ≡ cond b (number_marks (count - length is) is) (without_first (number_marks (count - length is) is))
    ++ entry_of i (count + 1) ∷ []
kept_by count size is new i true test room last e =
    let less = ltb-true count size test in
    let long = length-append is (i ∷ []) in
    let none : length (is ++ i ∷ []) - size ≡ 0 = omega arith in
    let all : new ≡ is ++ i ∷ [] = e ∙ ap (λ (d : ℕ). drop d (is ++ i ∷ [])) none in
    let start : count + 1 - length (is ++ i ∷ []) ≡ count - length is = omega arith in
    ap (λ (l : List (List ℕ)). number_marks (count + 1 - length l) l) all
    ∙ (ap (λ (k : ℕ). number_marks k (is ++ i ∷ [])) start
    ∙ numbered-push (count - length is) is i (count + 1) (omega arith))
kept_by count size [] new i false test room last e =
    let most = ltb-false count size test in absurd (omega arith)
kept_by count size (j ∷ is) new i false test room last e =
    let most = ltb-false count size test in
    let long = length-append is (i ∷ []) in
    let one : length ((j ∷ is) ++ i ∷ []) - size ≡ 1 = omega arith in
    let rest : new ≡ is ++ i ∷ [] = e ∙ ap (λ (d : ℕ). drop d ((j ∷ is) ++ i ∷ [])) one in
    let start : count + 1 - length (is ++ i ∷ []) ≡ (count - length (j ∷ is)) + 1 = omega arith in
    ap (λ (l : List (List ℕ)). number_marks (count + 1 - length l) l) rest
    ∙ (ap (λ (k : ℕ). number_marks k (is ++ i ∷ [])) start
    ∙ numbered-push ((count - length (j ∷ is)) + 1) is i (count + 1) (omega arith))

pub is_marked : (count c d : ℕ) (ring new : Buffer (List ℕ)) (i : List ℕ) → 0 < ring.capacity
    → length ring.items ≡ min count ring.capacity
    → new ≡ buffer (keep_last ring.capacity (ring.items ++ i ∷ [])) ring.capacity
    → marks_of (count + 1) d new ≡ add_mark (marks_of count c ring) i d
is_marked count c d ring new i room last e =
    ap (marks_of (count + 1) d) e
    ∙ ap (λ (es : List RememberedMark). let z : Marks =
    record { count = count + 1; counter = d; ring = ring.capacity; kept = es } in z)
    (kept_by count ring.capacity ring.items (keep_last ring.capacity (ring.items ++ i ∷ [])) i
    (nat_lt count ring.capacity) refl room last refl)

-- ---- the ring with one more

distinct-drop : (n : ℕ) (is : List (List ℕ)) → IsDistinct bytes_eq is → IsDistinct bytes_eq (drop n is)
distinct-drop zero is d = d
distinct-drop (suc n) [] d = d
distinct-drop (suc n) (i ∷ is) d = distinct-drop n is (IsDistinct-tail bytes_eq i is d)

pub stays_tied : (count c d : ℕ) (ring new : Buffer (List ℕ)) (i : List ℕ) (before between after : MarkEntries)
    → IsTied count c ring before → remembered (marks_of count c ring) i ≡ None
    → d ≤ c + most_kept + 1 → AddsIdentifier before i (count + 1) between
    → Forgets (buffer (ring.items ++ i ∷ []) ring.capacity) between after
    → new ≡ buffer (keep_last ring.capacity (ring.items ++ i ∷ [])) ring.capacity
    → IsTied (count + 1) d new after
stays_tied count c d ring new i before between after t fresh near enters forgets e =
    let all : List (List ℕ) = ring.items ++ i ∷ [] in
    let size = ring.capacity in
    let first = count - length ring.items in
    let room = t.room in
    let last = t.last in
    let steps = t.steps in
    let long : length all ≡ length ring.items + 1 = length-append ring.items (i ∷ []) in
    let left : length (keep_last size all) ≡ length all - (length all - size) = length-drop (length all - size) all in
    let distinct : IsDistinct bytes_eq all =
    IsDistinct-push nat_list_eq_equiv ring.items i t.distinct (none_alike (marks_of count c ring) first i ring.items fresh) in
    let push : number_marks first all ≡ number_marks first ring.items ++ entry_of i (count + 1) ∷ [] =
    numbered-push first ring.items i (count + 1) (omega arith) in
    let m : Marks = marks_of count c ring in
    let finds = enters m t.found in
    let start : first + (length all - size) ≡ count + 1 - length (keep_last size all) = omega arith in
    subst (λ (r : Buffer (List ℕ)). IsTied (count + 1) d r after) (sym e) (record {
      room = t.room;
      most = t.most;
      last = omega arith;
      steps = omega arith;
      distinct = distinct-drop (length all - size) all distinct;
      found = subst (λ (k : ℕ). FindsIdentifiers after (with_kept m (number_marks k (keep_last size all)))) start
          (forgets m first (omega arith) distinct
          (subst (λ (kept : List RememberedMark). FindsIdentifiers between (with_kept m kept)) (sym push) finds));
    })

-- ---- what holds of every ring

pub is_kept : (count c : ℕ) (ring : Buffer (List ℕ)) (entries : MarkEntries) → IsTied count c ring entries
    → AreRingMarks (marks_of count c ring)
is_kept count c ring entries t =
    let last = t.last in
    let long = length-numbered (count - length ring.items) ring.items in
    let start : count - length ring.items ≡ count - ring.capacity = omega arith in
    record {
      orderly = record {
        room = t.room;
        numbers =
            subst (λ (k : ℕ). AreNumbered k (number_marks (count - length ring.items) ring.items) count) start
            (in_numbers (count - length ring.items) ring.items count (omega arith));
      };
      most = t.most;
      within = omega arith;
      steps = t.steps;
      distinct =
          subst (IsDistinct bytes_eq) (sym (identifiers-numbered (count - length ring.items) ring.items)) t.distinct;
    }

pub starts_tied : (size : ℕ) (ring : Buffer (List ℕ)) (entries : MarkEntries) → 0 < size → size ≤ most_kept
    → ring ≡ buffer [] size → entries ≡ [] → IsTied 0 0 ring entries
unfolding IsDistinct
starts_tied size ring entries some most empty none =
    subst (λ (r : Buffer (List ℕ)). IsTied 0 0 r entries) (sym empty) (record {
      room = some;
      most = most;
      last = omega arith;
      steps = omega arith;
      distinct = tt;
      found = λ i. ap (lookup (is_key i)) none;
    })

-- what `mark` leaves, of an identifier that was copied
pub mark_is : (count c d : ℕ) (ring new : Buffer (List ℕ)) (entries : MarkEntries) (copied i : List ℕ) (m : Marks)
    → IsTied count c ring entries → marks_of count c ring ≡ m → copied ≡ i → remembered m i ≡ None → m.counter ≤ d
    → new ≡ buffer (keep_last ring.capacity (ring.items ++ copied ∷ [])) ring.capacity
    → (marks_of (count + 1) d new ≡ add_mark m i d) × IsMarkedFrom m (marks_of (count + 1) d new)
mark_is count c d ring new entries copied i m t view same fresh up e =
    let is : marks_of (count + 1) d new ≡ add_mark m i d =
    is_marked count c d ring new copied t.room t.last e
    ∙ (ap (λ (n : Marks). add_mark n copied d) view ∙ ap (λ (j : List ℕ). add_mark m j d) same) in
    let kept : AreRingMarks m = subst AreRingMarks view (is_kept count c ring entries t) in
    (is, subst (λ (n : Marks). IsMarkedFrom m n) (sym is) (fresh_follow m i d kept.orderly up fresh))
