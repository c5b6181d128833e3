-- What the judging of a header says of its octets.
use Rattle.std.proofs.Common.{◌≡◌, ℕ, ◌<◌, ◌≤◌, ◌%◌, Bool, true, false, not, ltb, eqb, List, ◌++◌, length, drop}
use Rattle.std.proofs.Common.{slice_index, Some, None, Ok, Err, refl, sym, ap, subst, ◌∙◌, arith, length-append}
use Rattle.std.proofs.lemmas.Bool.{ltb-true, ltb-false, lt-ltb, le-ltb, leb-true, le-leb, eqb-true, eq-eqb}
use Rattle.std.proofs.lemmas.List.{get_or_append_left, drop-append-le, length-drop}
use Rattle.byteorder.specs.Numbers.{big_from-append, little_from-append}
use Rattle.td_cdr.specs.declared.order.Order.{Order}
use Rattle.td_cdr.specs.declared.order.Order.TheVariants.{Big, Little}
use Rattle.td_cdr.specs.Reading.{number}
use Rattle.td_giop.specs.declared.fault.FrameFault.{FrameFault}
use Rattle.td_giop.specs.declared.fault.FrameFault.TheVariants.{BadMagic, BadVersion, BadType, TooLarge, Fragmented}
use Rattle.td_giop.specs.Header.{GoodHeader, FirstFault, HasMagic, HasVersion, IsFragmented, TellsOrder, has_magic}
use Rattle.td_giop.specs.Header.{has_version, is_fragmented, order_of_flag, size_in_header, header_at, JudgesHeader}
use Rattle.td_giop.proofs.Cond.{cond_case, both_true, and_true}

-- ---- tests and what they test

magic_true : (bytes : List ℕ) → has_magic bytes ≡ true → HasMagic bytes
magic_true bytes e =
    let p = both_true (eqb (slice_index bytes 0) 71) _ e in
    let q = both_true (eqb (slice_index bytes 1) 73) _ p.1 in
    let r = both_true (eqb (slice_index bytes 2) 79) _ q.1 in
    record { g = eqb-true _ _ p.0; i = eqb-true _ _ q.0; o = eqb-true _ _ r.0; p = eqb-true _ _ r.1 }

magic_test : (bytes : List ℕ) → HasMagic bytes → has_magic bytes ≡ true
magic_test bytes m =
    and_true _ _ (eq-eqb _ _ m.g) (and_true _ _ (eq-eqb _ _ m.i) (and_true _ _ (eq-eqb _ _ m.o) (eq-eqb _ _ m.p)))

version_true : (bytes : List ℕ) → has_version bytes ≡ true → HasVersion bytes
version_true bytes e =
    let p = both_true (eqb (slice_index bytes 4) 1) _ e in
    record { major = eqb-true _ _ p.0; minor = leb-true _ _ p.1 }

version_test : (bytes : List ℕ) → HasVersion bytes → has_version bytes ≡ true
version_test bytes v = and_true _ _ (eq-eqb _ _ v.major) (le-leb _ _ v.minor)

fragmented_true : (bytes : List ℕ) → is_fragmented bytes ≡ true → IsFragmented bytes
fragmented_true bytes e =
    let p = both_true (ltb 0 (slice_index bytes 5)) _ e in
    record { newer = ltb-true _ _ p.0; flag = leb-true _ _ p.1 }

fragmented_test : (bytes : List ℕ) → IsFragmented bytes → is_fragmented bytes ≡ true
fragmented_test bytes f = and_true _ _ (lt-ltb _ _ f.newer) (le-leb _ _ f.flag)

not_true : (b : Bool) → not b ≡ true → b ≡ false
not_true true e = absurd cc
not_true false e = refl

pub not_false : (b : Bool) → not b ≡ false → b ≡ true
not_false true e = refl
not_false false e = absurd cc

is_false : (b : Bool) → b ≡ true → b ≡ false → ⊥
is_false b p q = cc

eqb-false : (a b : ℕ) → eqb a b ≡ false → a ≡ b → ⊥
eqb-false a b e p = is_false (eqb a b) (eq-eqb a b p) e

pub content : (octet : ℕ) → TellsOrder octet (order_of_flag octet)
content octet = cond_case (TellsOrder octet) (eqb (octet % 2) 0) Big Little
    (λ e. eqb-true _ _ e)
    (λ e. let h = eqb-false (octet % 2) 0 e in omega (arith, h))

pub only_content : (octet : ℕ) (order : Order) → TellsOrder octet order → order ≡ order_of_flag octet
only_content octet Big e = rw (eq-eqb (octet % 2) 0 e) refl
only_content octet Little e =
    let one : octet % 2 ≡ 1 = e in
    let no : eqb (octet % 2) 0 ≡ false = rw one refl in
    rw no refl

-- ---- each answer, with what it says

pub judged : (limit : ℕ) (bytes : List ℕ) → JudgesHeader limit bytes (header_at limit bytes)
unfolding header_at
judged limit bytes =
    let order = order_of_flag (slice_index bytes 6) in
    cond_case (JudgesHeader limit bytes) (ltb (length bytes) 12) _ _
    (λ short. ltb-true _ _ short)
    (λ long. let there : 12 ≤ length bytes = ltb-false _ _ long in
    cond_case (JudgesHeader limit bytes) (not (has_magic bytes)) _ _
    (λ e. (
      there,
      λ (m : HasMagic bytes).
          is_false (has_magic bytes) (magic_test bytes m) (not_true (has_magic bytes) e),
    ))
    (λ m. let magic = magic_true bytes (not_false (has_magic bytes) m) in
    cond_case (JudgesHeader limit bytes) (not (has_version bytes)) _ _
    (λ e. (
      there,
      (
        magic,
        λ (v : HasVersion bytes).
            is_false (has_version bytes) (version_test bytes v) (not_true (has_version bytes) e),
      ),
    ))
    (λ v. let version = version_true bytes (not_false (has_version bytes) v) in
    cond_case (JudgesHeader limit bytes) (is_fragmented bytes) _ _
    (λ e. (there, (magic, version, fragmented_true bytes e)))
    (λ w. let one : IsFragmented bytes → ⊥ = λ (f : IsFragmented bytes).
    is_false (is_fragmented bytes) (fragmented_test bytes f) w in
    cond_case (JudgesHeader limit bytes) (ltb 6 (slice_index bytes 7)) _ _
    (λ e. (there, (magic, version, one, ltb-true _ _ e)))
    (λ t. let known : slice_index bytes 7 ≤ 6 = ltb-false _ _ t in
    cond_case (JudgesHeader limit bytes) (ltb limit (size_in_header order bytes)) _ _
    (λ e. (
      there,
      (
        magic,
        version,
        one,
        known,
        λ (o : Order) (h : TellsOrder (slice_index bytes 6) o).
            subst (λ (x : Order). limit < number x 4 (drop 8 bytes)) (sym (only_content (slice_index bytes 6) o h))
            (ltb-true _ _ e),
      ),
    ))
    (λ s. record {
      whole = there;
      magic = magic;
      version = version;
      minor_octet = refl;
      unfragmented = one;
      order_octet = content (slice_index bytes 6);
      type_octet = (refl, known);
      size_field = refl;
      within = ltb-false _ _ s;
    }))))))

-- ---- a header that is there stays as it is, whatever follows

number-append : (order : Order) (n : ℕ) (xs ys : List ℕ) → n ≤ length xs → number order n (xs ++ ys) ≡ number order n xs
number-append Big n xs ys h = big_from-append n xs ys h
number-append Little n xs ys h = little_from-append n xs ys h

pub size_in_header-append : (order : Order) (s p : List ℕ) → 12 ≤ length s → size_in_header order (s ++ p) ≡ size_in_header order s
size_in_header-append order s p h =
    ap (number order 4) (drop-append-le 8 s p (omega arith))
    ∙ number-append order 4 (drop 8 s) p (omega (arith, length-drop 8 s))

pub octet-append : (s p : List ℕ) (k : ℕ) → 12 ≤ length s → k < 12 → slice_index (s ++ p) k ≡ slice_index s k
octet-append s p k h lt = get_or_append_left s p 0 k (omega arith)

pub header_at-append : (limit : ℕ) (s p : List ℕ) → 12 ≤ length s → header_at limit (s ++ p) ≡ header_at limit s
unfolding header_at
header_at-append limit s p h =
    let there : ltb (length s) 12 ≡ false = le-ltb _ _ h in
    let still : ltb (length (s ++ p)) 12 ≡ false = le-ltb _ _ (omega (arith, length-append s p)) in
    let e0 = octet-append s p 0 h (omega arith) in
    let e1 = octet-append s p 1 h (omega arith) in
    let e2 = octet-append s p 2 h (omega arith) in
    let e3 = octet-append s p 3 h (omega arith) in
    let e4 = octet-append s p 4 h (omega arith) in
    let e5 = octet-append s p 5 h (omega arith) in
    let e6 = octet-append s p 6 h (omega arith) in
    let e7 = octet-append s p 7 h (omega arith) in
    let e8 = size_in_header-append (order_of_flag (slice_index s 6)) s p h in
    rw (there, still, e0, e1, e2, e3, e4, e5, e6, e7, e8) refl

-- ---- what is so is answered

true_or_false : (b : Bool) → (b ≡ true → ⊥) → b ≡ false
true_or_false true h = absurd (h refl)
true_or_false false h = refl

pub good_at : (limit : ℕ) (bytes : List ℕ) (minor : ℕ) (order : Order) (kind size : ℕ)
    → GoodHeader limit bytes minor order kind size
    → header_at limit bytes ≡ Ok (Some (record { kind = kind; order = order; size = size; minor = minor }))
unfolding header_at
good_at limit bytes minor order kind size g =
    let there : ltb (length bytes) 12 ≡ false = le-ltb _ _ g.whole in
    let magic = magic_test bytes g.magic in
    let version = version_test bytes g.version in
    let one : is_fragmented bytes ≡ false =
    true_or_false (is_fragmented bytes) (λ f. g.unfragmented (fragmented_true bytes f)) in
    let known : ltb 6 kind ≡ false = le-ltb _ _ g.type_octet.1 in
    let content_is : order_of_flag (slice_index bytes 6) ≡ order =
    sym (only_content (slice_index bytes 6) order g.order_octet) in
    let small : ltb limit size ≡ false = le-ltb _ _ g.within in
    rw (there, magic, version, one, g.type_octet.0, known, content_is, g.size_field, small, g.minor_octet) refl

pub cut_at : (limit : ℕ) (bytes : List ℕ) → length bytes < 12 → header_at limit bytes ≡ Ok None
unfolding header_at
cut_at limit bytes h = rw (lt-ltb (length bytes) 12 h) refl

pub fault_at : (limit : ℕ) (bytes : List ℕ) (f : FrameFault) → 12 ≤ length bytes → FirstFault f limit bytes
    → header_at limit bytes ≡ Err f
unfolding header_at
fault_at limit bytes BadMagic h e =
    let there : ltb (length bytes) 12 ≡ false = le-ltb _ _ h in
    let no = true_or_false (has_magic bytes) (λ x. e (magic_true bytes x)) in
    rw (there, no) refl
fault_at limit bytes BadVersion h e =
    let there : ltb (length bytes) 12 ≡ false = le-ltb _ _ h in
    let magic = magic_test bytes e.0 in
    let no = true_or_false (has_version bytes) (λ x. e.1 (version_true bytes x)) in
    rw (there, magic, no) refl
fault_at limit bytes Fragmented h e =
    let there : ltb (length bytes) 12 ≡ false = le-ltb _ _ h in
    let magic = magic_test bytes e.0 in
    let version = version_test bytes e.1 in
    let some = fragmented_test bytes e.2 in
    rw (there, magic, version, some) refl
fault_at limit bytes BadType h e =
    let there : ltb (length bytes) 12 ≡ false = le-ltb _ _ h in
    let magic = magic_test bytes e.0 in
    let version = version_test bytes e.1 in
    let one = true_or_false (is_fragmented bytes) (λ f. e.2 (fragmented_true bytes f)) in
    let above : ltb 6 (slice_index bytes 7) ≡ true = lt-ltb _ _ e.3 in
    rw (there, magic, version, one, above) refl
fault_at limit bytes TooLarge h e =
    let there : ltb (length bytes) 12 ≡ false = le-ltb _ _ h in
    let magic = magic_test bytes e.0 in
    let version = version_test bytes e.1 in
    let one = true_or_false (is_fragmented bytes) (λ f. e.2 (fragmented_true bytes f)) in
    let known : ltb 6 (slice_index bytes 7) ≡ false = le-ltb _ _ e.3 in
    let above : ltb limit (size_in_header (order_of_flag (slice_index bytes 6)) bytes) ≡ true =
    lt-ltb _ _ (e.4 (order_of_flag (slice_index bytes 6)) (content (slice_index bytes 6))) in
    rw (there, magic, version, one, known, above) refl
