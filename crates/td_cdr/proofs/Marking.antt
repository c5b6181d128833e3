-- One more mark, and what is remembered then.
use Rattle.std.proofs.Common.{◌≡◌, true≢false, ℕ, ◌+◌, ◌-◌, ◌^◌, ◌<◌, ◌≤◌, ◌⊎◌, inl, inr, List, [], ◌∷◌, ◌++◌}
use Rattle.std.proofs.Common.{Bool, true, false, cond, nat_lt, ltb-true, ltb-false, Option, Some, None, option_map}
use Rattle.std.proofs.Common.{refl, sym, ◌∙◌, ap, subst, le_refl, arith, length, length-append}
use Rattle.std.specs.List.{find}
use Rattle.std.specs.Str.{bytes_eq}
use Rattle.std.proofs.lemmas.Slice.Eq.{bytes_eq-Decides}
use Rattle.td_cdr.specs.declared.order.Order.TheVariants.{Big}
use Rattle.td_cdr.specs.Gap.{bytes_of}
use Rattle.td_cdr.specs.Reading.{number}
use Rattle.byteorder.specs.Numbers.{big_number-reads_back}
use Rattle.std.proofs.lemmas.List.{append-nil}
use Rattle.td_cdr.specs.Marks.{Marks, RememberedMark, In, RemembersAs, entry_of, remembered, AreNumbered, KeepsLatest}
use Rattle.td_cdr.specs.Marks.{without_first}
use Rattle.td_cdr.specs.Marks.{kept_beside, add_mark, made_identifier, Later, IsMarkedFrom, last_identifier}

-- ---- lists

abbrev identifier_of : RememberedMark → List ℕ
identifier_of e = e.identifier

abbrev number_of : RememberedMark → ℕ
number_of e = e.number

in-last : {X : Type 0} (x : X) (xs : List X) → In x (xs ++ x ∷ [])
in-last x [] = inl refl
in-last x (y ∷ xs) = inr (in-last x xs)

in-before : {X : Type 0} (a x : X) (xs : List X) → In a xs → In a (xs ++ x ∷ [])
in-before a x [] h = elim h [ ]
in-before a x (y ∷ xs) (inl e) = inl e
in-before a x (y ∷ xs) (inr h) = inr (in-before a x xs h)

in-cases : {X : Type 0} (a x : X) (xs : List X) → In a (xs ++ x ∷ []) → In a xs ⊎ (a ≡ x)
in-cases a x [] (inl e) = inr e
in-cases a x [] (inr h) = elim h [ ]
in-cases a x (y ∷ xs) (inl e) = inl (inl e)
in-cases a x (y ∷ xs) (inr h) = either-behind (in-cases a x xs h)
  where
    either-behind : In a xs ⊎ (a ≡ x) → In a (y ∷ xs) ⊎ (a ≡ x)
    either-behind (inl k) = inl (inr k)
    either-behind (inr e) = inr e

-- ---- numbers

numbered-snoc : (k : ℕ) (es : List RememberedMark) (n : ℕ) (e : RememberedMark) → AreNumbered k es n → e.number ≡ n + 1
    → AreNumbered k (es ++ e ∷ []) (n + 1)
numbered-snoc k [] n e r is = (is ∙ ap (λ x. x + 1) (sym r), ap (λ x. x + 1) r)
numbered-snoc k (f ∷ es) n e r is = (r.0, numbered-snoc (k + 1) es n e r.1 is)

last-snoc : (es : List RememberedMark) (e : RememberedMark) → last_identifier (es ++ e ∷ []) ≡ e.identifier
last-snoc [] e = refl
last-snoc (f ∷ []) e = refl
last-snoc (f ∷ g ∷ es) e = last-snoc (g ∷ es) e

numbered-first : (k : ℕ) (es : List RememberedMark) (n : ℕ) → k < n → AreNumbered k es n
    → AreNumbered (k + 1) (without_first es) n
numbered-first k [] n less r = absurd (omega arith)
numbered-first k (e ∷ es) n less r = r.1

not_first : (k : ℕ) (es : List RememberedMark) (n : ℕ) (e : RememberedMark) → AreNumbered k es n → In e es → k + 1 < e.number
    → In e (without_first es)
not_first k [] n e r h above = h
not_first k (f ∷ es) n e r (inl p) above =
    absurd (let z : e.number ≡ f.number = ap (λ (x : RememberedMark). x.number) p in let y = r.0 in omega arith)
not_first k (f ∷ es) n e r (inr h) above = h

in-rest : (e : RememberedMark) (es : List RememberedMark) → In e (without_first es) → In e es
in-rest e [] h = h
in-rest e (f ∷ es) h = inr h

-- ---- what stays

stays : (m : Marks) (b : Bool) → nat_lt m.count m.ring ≡ b → KeepsLatest m
    → AreNumbered (m.count + 1 - m.ring) (cond b m.kept (without_first m.kept)) m.count
    × ((e : RememberedMark) → In e m.kept → m.count + 1 < e.number + m.ring → In e (cond b m.kept (without_first m.kept)))
stays m true is p =
    let less = ltb-true m.count m.ring is in
    let room = p.room in
    let start : m.count - m.ring ≡ m.count + 1 - m.ring = omega arith in
    (subst (λ k. AreNumbered k m.kept m.count) start p.numbers, λ e h above. h)
stays m false is p =
    let most = ltb-false m.count m.ring is in
    let room = p.room in
    let start : (m.count - m.ring) + 1 ≡ m.count + 1 - m.ring = omega arith in (
      subst (λ k. AreNumbered k (without_first m.kept) m.count) start
          (numbered-first (m.count - m.ring) m.kept m.count (omega arith) p.numbers),
      λ e h above. not_first (m.count - m.ring) m.kept m.count e p.numbers h (omega arith),
    )

stayed : (m : Marks) (b : Bool) (e : RememberedMark) → In e (cond b m.kept (without_first m.kept)) → In e m.kept
stayed m true e h = h
stayed m false e h = in-rest e m.kept h

pub follows : (m : Marks) (i : List ℕ) (c : ℕ) → KeepsLatest m → m.counter ≤ c → ((n : ℕ) → RemembersAs m i n → ⊥)
    → IsMarkedFrom m (add_mark m i c)
follows m i c p up fresh =
    let s = stays m (nat_lt m.count m.ring) refl p in
    let x = entry_of i (m.count + 1) in
    let last : last_identifier (kept_beside m ++ x ∷ []) ≡ i = last-snoc (kept_beside m) x in
    record {
      later = record {
        ring = refl;
        count = omega arith;
        counter = up;
        keeps = λ e h above. in-before e x (kept_beside m) (s.1 e h above);
        same = λ e. absurd (omega arith);
      };
      new = record {
        count = refl;
        fresh = λ e h is. fresh e.number (subst (λ j. RemembersAs m j e.number) (is ∙ last) h);
        kept =
            subst (λ j. In (entry_of j (m.count + 1)) (kept_beside m ++ x ∷ [])) (sym last) (in-last x (kept_beside m));
      };
      orderly =
          record { room = p.room; numbers = numbered-snoc (m.count + 1 - m.ring) (kept_beside m) m.count x s.0 refl };
    }

pub newest : (m : Marks) (i : List ℕ) (c : ℕ) → RemembersAs (add_mark m i c) i (m.count + 1)
newest m i c = in-last (entry_of i (m.count + 1)) (kept_beside m)

pub no_other : (m : Marks) (i j : List ℕ) (c n : ℕ) → RemembersAs (add_mark m i c) j n
    → RemembersAs m j n ⊎ ((i ≡ j) × (m.count + 1 ≡ n))
no_other m i j c n h = from (in-cases (entry_of j n) (entry_of i (m.count + 1)) (kept_beside m) h)
  where
    from : In (entry_of j n) (kept_beside m) ⊎ (entry_of j n ≡ entry_of i (m.count + 1))
        → RemembersAs m j n ⊎ ((i ≡ j) × (m.count + 1 ≡ n))
    from (inl k) = inl (stayed m (nat_lt m.count m.ring) (entry_of j n) k)
    from (inr e) = inr (sym (ap identifier_of e), sym (ap number_of e))

pub stays_remembered : (m : Marks) (i j : List ℕ) (c n : ℕ) → KeepsLatest m → m.count + 1 < n + m.ring → RemembersAs m j n
    → RemembersAs (add_mark m i c) j n
stays_remembered m i j c n p above h =
    in-before (entry_of j n) (entry_of i (m.count + 1)) (kept_beside m)
    ((stays m (nat_lt m.count m.ring) refl p).1 (entry_of j n) h above)

-- ---- what is remembered

abbrev Among : List RememberedMark → List ℕ → Option ℕ → Type 0
Among es i None = (n : ℕ) → In (entry_of i n) es → ⊥
Among es i (Some n) = In (entry_of i n) es

behind : (e : RememberedMark) (es : List RememberedMark) (i : List ℕ) (o : Option ℕ) → bytes_eq e.identifier i ≡ false
    → Among es i o → Among (e ∷ es) i o
behind e es i None apart rest = λ n. not_here n (rest n)
  where
    not_here : (n : ℕ) → (In (entry_of i n) es → ⊥) → In (entry_of i n) (e ∷ es) → ⊥
    not_here n others (inl q) =
        absurd (true≢false (sym ((bytes_eq-Decides e.identifier i).1 (sym (ap identifier_of q))) ∙ apart))
    not_here n others (inr h) = others h
behind e es i (Some n) apart rest = inr rest

here : (e : RememberedMark) (es : List RememberedMark) (i : List ℕ) (found : Option RememberedMark) (b : Bool)
    → bytes_eq e.identifier i ≡ b → Among es i (option_map number_of found)
    → Among (e ∷ es) i (option_map number_of (cond b (Some e) found))
here e es i found true same rest = inl (ap (λ j. entry_of j e.number) (sym ((bytes_eq-Decides e.identifier i).0 same)))
here e es i found false apart rest = behind e es i (option_map number_of found) apart rest

among : (es : List RememberedMark) (i : List ℕ) → Among es i (option_map number_of (find (λ e. bytes_eq e.identifier i) es))
among [] i = λ n h. h
among (e ∷ es) i = here e es i (find (λ e. bytes_eq e.identifier i) es) (bytes_eq e.identifier i) refl (among es i)

pub is_held : (m : Marks) (i : List ℕ) (n : ℕ) → remembered m i ≡ Some n → RemembersAs m i n
is_held m i n h = subst (Among m.kept i) h (among m.kept i)

pub is_not_held : (m : Marks) (i : List ℕ) → remembered m i ≡ None → (n : ℕ) → RemembersAs m i n → ⊥
is_not_held m i h = subst (Among m.kept i) h (among m.kept i)

-- ---- marks that grow

pub later_itself : (a : Marks) → Later a a
later_itself a = record {
  ring = refl;
  count = le_refl a.count;
  counter = le_refl a.counter;
  keeps = λ e h b. h;
  same = λ e. refl;
}

pub later_on : (a b c : Marks) → Later a b → Later b c → Later a c
later_on a b c p q = record {
  ring = q.ring ∙ p.ring;
  count = let x = p.count in let y = q.count in omega arith;
  counter = let x = p.counter in let y = q.counter in omega arith;
  keeps = λ e h n. let x = q.count in let r = p.ring in q.keeps e (p.keeps e h (omega arith)) (omega arith);
  same = λ e. let x = p.count in let y = q.count in q.same (omega arith) ∙ p.same (omega arith);
}

-- ---- made identifiers

same_end : (stem a b : List ℕ) → stem ++ a ≡ stem ++ b → a ≡ b
same_end [] a b e = e
same_end (x ∷ stem) a b e = same_end stem a b (ap (λ t. tail_of t) e)
  where
    tail_of : List ℕ → List ℕ
    tail_of [] = []
    tail_of (y ∷ ys) = ys

read_back : (k : ℕ) → k < 256 ^ 8 → number Big 8 (bytes_of Big 8 k) ≡ k
read_back k few = ap (number Big 8) (sym (append-nil (bytes_of Big 8 k))) ∙ big_number-reads_back 8 k [] few

same_front : (xs ys a b : List ℕ) → length xs ≡ length ys → xs ++ a ≡ ys ++ b → xs ≡ ys
same_front [] [] a b long e = refl
same_front [] (y ∷ ys) a b long e = absurd (omega arith)
same_front (x ∷ xs) [] a b long e = absurd (omega arith)
same_front (x ∷ xs) (y ∷ ys) a b long e =
    let first : x ≡ y = cc in
    let rest : xs ++ a ≡ ys ++ b = cc in
    let more = same_front xs ys a b (omega arith) rest in
    cc

-- the values are the same, whatever the stems
pub made_apart : (s t : List ℕ) (k l : ℕ) → k < 256 ^ 8 → l < 256 ^ 8 → made_identifier s k ≡ made_identifier t l → k ≡ l
made_apart s t k l few also e =
    let a : List ℕ = bytes_of Big 8 k in
    let b : List ℕ = bytes_of Big 8 l in
    let long_a : length a ≡ 8 = refl in
    let long_b : length b ≡ 8 = refl in
    let all : length s + length a ≡ length t + length b =
    sym (length-append s a) ∙ (ap (length {A = ℕ}) e ∙ length-append t b) in
    let stems : s ≡ t = same_front s t a b (omega arith) e in
    let ends : a ≡ b = same_end s a b (e ∙ ap (λ (x : List ℕ). made_identifier x l) (sym stems)) in
    sym (read_back k few) ∙ ap (number Big 8) ends ∙ read_back l also
