-- How long what is written is, at any place and in either order.
use Rattle.std.proofs.Common.{◌≡◌, ℕ, ◌+◌, ◌*◌, ◌%◌, ◌≤◌, List, [], ◌∷◌, ◌++◌, length, map, replicate, refl, sym, ap}
use Rattle.std.proofs.Common.{◌∙◌, arith, length-append, append_assoc}
use Rattle.std.specs.List.{AllByRecursion}
use Rattle.std.proofs.lemmas.List.{length-replicate}
use Rattle.byteorder.specs.Numbers.{length-bytes_high_first, length-bytes_low_first}
use Rattle.td_cdr.specs.declared.order.Order.{Order}
use Rattle.td_cdr.specs.declared.order.Order.TheVariants.{Big, Little}
use Rattle.td_cdr.specs.Gap.{gap, bytes_of}
use Rattle.td_cdr.specs.Format.{Piece, ◌then◌, row}
use Rattle.td_cdr.specs.Writing.{written_number, written_octets}
use Rattle.td_cdr.specs.Sound.{text}
use Rattle.td_typecode.specs.declared.reference.Ior.{Ior}
use Rattle.td_typecode.specs.declared.reference.Profile.{Profile}
use Rattle.td_cdr.specs.Format.{number as number_format}
use Rattle.td_typecode.specs.declared.code.Value.{Value}
use Rattle.td_typecode.specs.declared.label.Label.{Label}
use Rattle.td_typecode.specs.declared.label.Label.TheVariants.{One, Two, Four, Eight}
use Rattle.td_typecode.specs.Labels.{label_of, label_piece, plain_piece}
use Rattle.td_typecode.specs.References.{reference, profile}
use Rattle.td_iter.specs.Filling.{count_before}

pub length-bytes_of : (order : Order) (size v : ℕ) → length (bytes_of order size v) ≡ size
length-bytes_of Big size v = length-bytes_high_first size v
length-bytes_of Little size v = length-bytes_low_first 0 size v

pub number-length : (size : ℕ) (order : Order) (place v : ℕ)
    → length (written_number size order place v) ≡ gap size place + size
number-length size order place v =
    let zeros : length {A = ℕ} (replicate (gap size place) 0) ≡ gap size place = length-replicate (gap size place) 0 in
    omega (
      arith,
      length-append (replicate (gap size place) 0) (bytes_of order size v),
      zeros,
      length-bytes_of order size v,
    )

pub octets-length : (order : Order) (place : ℕ) (v : List ℕ)
    → length (written_octets order place v) ≡ gap 4 place + 4 + length v
octets-length order place v = omega (
  arith,
  length-append (written_number 4 order place (length v)) v,
  number-length 4 order place (length v),
)

-- ---- pieces that begin at a multiple of four, whose length is one at all such places

pub record Aligned (p : Piece) : Type 0 where
  pub long : (o u : Order) (place base : ℕ) → base % 4 ≡ 0 → length (p o place) ≡ gap 4 place + length (p u base)

pub number-aligned : (v : ℕ) → Aligned ((number_format 4).writes v)
number-aligned v =
    record { long = λ o u place base e. omega (arith, e, number-length 4 o place v, number-length 4 u base v) }

pub octets-aligned : (v : List ℕ) → Aligned (λ order place. written_octets order place v)
octets-aligned v =
    record { long = λ o u place base e. omega (arith, e, octets-length o place v, octets-length u base v) }

pub then-aligned : (p q : Piece) → Aligned p → Aligned q → Aligned (p then q)
then-aligned p q a b = record {
  long = λ o u place base e.
      let first = a.long o u place base e in
      let here = b.long o u (place + length (p o place)) 0 refl in
      let there = b.long u u (base + length (p u base)) 0 refl in
      omega (
        arith,
        e,
        first,
        here,
        there,
        length-append (p o place) (q o (place + length (p o place))),
        length-append (p u base) (q u (base + length (p u base))),
      );
}

regrouped : (p q : Piece) (qs : List Piece) (o : Order) (place : ℕ)
    → (p then row (q ∷ qs)) o place ≡ ((p then q) then row qs) o place
regrouped p q qs o place =
    let front = p o place in
    let next = q o (place + length front) in
    let e : place + length front + length next ≡ place + length (front ++ next) =
    omega (arith, length-append front next) in
    ap (λ (k : ℕ). front ++ (next ++ row qs o k)) e
    ∙ sym (append_assoc front next (row qs o (place + length (front ++ next))))

row-aligned : (p : Piece) (qs : List Piece) → Aligned p → AllByRecursion Aligned qs → Aligned (p then row qs)
row-aligned p [] a all =
    record {
      long = λ o u place base e. omega (
        arith,
        a.long o u place base e,
        length-append (p o place) [],
        length-append (p u base) [],
      );
    }
row-aligned p (q ∷ qs) a all =
    let whole = row-aligned (p then q) qs (then-aligned p q a all.0) all.1 in
    record {
      long = λ o u place base e. ap length (regrouped p q qs o place) ∙ whole.long o u place base e
          ∙ ap (λ (b : List ℕ). gap 4 place + length b) (sym (regrouped p q qs u base));
    }

all-mapped : {X : Type 0} (P : Piece → Type 0) (f : X → Piece) → ((x : X) → P (f x)) → (xs : List X)
    → AllByRecursion P (map f xs)
all-mapped P f h [] = tt
all-mapped P f h (x ∷ xs) = (h x, all-mapped P f h xs)

pub counted-aligned : {X : Type 0} (f : X → Piece) → ((x : X) → Aligned (f x)) → (xs : List X) → Aligned (count_before f xs)
counted-aligned f h xs = row-aligned ((number_format 4).writes (length xs)) (map f xs) (number-aligned (length xs))
    (all-mapped Aligned f h xs)

pub text-aligned : (v : List ℕ) → Aligned (text.format.writes v)
text-aligned v = octets-aligned (v ++ 0 ∷ [])

profile-aligned : (p : Profile) → Aligned (profile.format.writes p)
profile-aligned p = then-aligned ((number_format 4).writes p.tag) (λ order place. written_octets order place p.octets)
    (number-aligned p.tag) (octets-aligned p.octets)

pub reference-aligned : (r : Ior) → Aligned (reference.format.writes r)
reference-aligned r = then-aligned (text.format.writes r.id) (count_before profile.format.writes r.profiles)
    (text-aligned r.id) (counted-aligned profile.format.writes profile-aligned r.profiles)

-- ---- pieces that are at most twice as long in one place as in another

pub record Steady (p : Piece) : Type 0 where
  pub long : (o u : Order) (place base : ℕ) → length (p o place) ≤ 2 * length (p u base)

pub one-steady : (v : ℕ) → Steady ((number_format 1).writes v)
one-steady v = record { long = λ o u place base. omega (arith, number-length 1 o place v, number-length 1 u base v) }

pub two-steady : (v : ℕ) → Steady ((number_format 2).writes v)
two-steady v = record { long = λ o u place base. omega (arith, number-length 2 o place v, number-length 2 u base v) }

pub four-steady : (v : ℕ) → Steady ((number_format 4).writes v)
four-steady v = record { long = λ o u place base. omega (arith, number-length 4 o place v, number-length 4 u base v) }

pub eight-steady : (v : ℕ) → Steady ((number_format 8).writes v)
eight-steady v = record { long = λ o u place base. omega (arith, number-length 8 o place v, number-length 8 u base v) }

pub octets-steady : (v : List ℕ) → Steady (λ order place. written_octets order place v)
octets-steady v = record { long = λ o u place base. omega (arith, octets-length o place v, octets-length u base v) }

pub none-steady : Steady (λ order place. [])
none-steady = record { long = λ o u place base. omega arith }

pub then-steady : (p q : Piece) → Steady p → Steady q → Steady (p then q)
then-steady p q a b = record {
  long = λ o u place base.
      let first = a.long o u place base in
      let second = b.long o u (place + length (p o place)) (base + length (p u base)) in
      omega (
        arith,
        first,
        second,
        length-append (p o place) (q o (place + length (p o place))),
        length-append (p u base) (q u (base + length (p u base))),
      );
}

pub row-steady : (ps : List Piece) → AllByRecursion Steady ps → Steady (row ps)
row-steady [] all = none-steady
row-steady (p ∷ ps) all = then-steady p (row ps) all.0 (row-steady ps all.1)

pub rows-steady : {X : Type 0} (f : X → Piece) → ((x : X) → Steady (f x)) → (xs : List X) → Steady (row (map f xs))
rows-steady f h xs = row-steady (map f xs) (all-mapped Steady f h xs)

pub counted-steady : {X : Type 0} (f : X → Piece) → ((x : X) → Steady (f x)) → (xs : List X) → Steady (count_before f xs)
counted-steady f h xs = then-steady ((number_format 4).writes (length xs)) (row (map f xs)) (four-steady (length xs))
    (rows-steady f h xs)

pub text-steady : (v : List ℕ) → Steady (text.format.writes v)
text-steady v = octets-steady (v ++ 0 ∷ [])

profile-steady : (p : Profile) → Steady (profile.format.writes p)
profile-steady p = then-steady ((number_format 4).writes p.tag) (λ order place. written_octets order place p.octets)
    (four-steady p.tag) (octets-steady p.octets)

pub reference-steady : (r : Ior) → Steady (reference.format.writes r)
reference-steady r = then-steady (text.format.writes r.id) (count_before profile.format.writes r.profiles)
    (text-steady r.id) (counted-steady profile.format.writes profile-steady r.profiles)

pub label-steady : (l : Label) → Steady (label_piece l)
label-steady (One n) = one-steady n
label-steady (Two n) = two-steady n
label-steady (Four n) = four-steady n
label-steady (Eight n) = eight-steady n

pub plain-steady : (v : Value) → Steady (plain_piece v)
plain-steady v = label-steady (label_of v)
