-- How it is found which edge spells a node.
use Rattle.std.proofs.Common.{◌≡◌, ℕ, zero, suc, ◌+◌, ◌<◌, ◌≤◌, min, Bool, true, false, List, [], ◌∷◌, ◌++◌, length, take, drop}
use Rattle.std.proofs.Common.{get_or, set, cond, refl, sym, ap, subst, ◌∙◌, arith, true≢false}
use Rattle.std.specs.Prelude.{nat_eq, nat_lt, Option, Some, None}
use Rattle.std.proofs.lemmas.List.{get_or-set_same, get_or-set_other, ext_get_or, drop_all, take_all, append-nil}
use Rattle.std.proofs.lemmas.Bool.{eq-eqb, ne_eqb, eqb-true, lt-ltb, le-ltb, ltb-true, ltb-false}
use Rattle.tc_graph.specs.declared.node.Node.{Node}
use Rattle.tc_graph.specs.Nodes.{node_at}
use Rattle.tc_edges.specs.declared.edges.Spelling.{Spelling}
use Rattle.tc_edges.specs.Edges.{spelled_before, spelled_by, spellings, noted_at, IsBlank}
use Rattle.std.proofs.lemmas.List.FromFn.{length-map-range_with_len, get_or-map-range_with_len}

abbrev found : ℕ → ℕ → Option Spelling
found i k = Some (record { place = i; edge = k })

-- no edge was looked at
none-at : (b : Bool) (old : Option Spelling) → cond b old old ≡ old
none-at true old = refl
none-at false old = refl

pub noted-none : (i k : ℕ) (old : Option Spelling) (j : ℕ) → noted_at i k [] old j ≡ old
noted-none i k old j = none-at (nat_lt i j) old

hit : (i k j : ℕ) (rest : List ℕ) (old : Option Spelling) → i < j → noted_at i k (j ∷ rest) old j ≡ found i k
hit i k j rest old lt = rw (lt-ltb i j lt, eq-eqb j j refl) refl

miss : (i k e j : ℕ) (rest : List ℕ) (old : Option Spelling) → (e ≡ j → ⊥)
    → noted_at i k (e ∷ rest) old j ≡ noted_at i (k + 1) rest old j
miss i k e j rest old other = rw (ne_eqb e j other) refl

low : (i k j : ℕ) (es : List ℕ) (old : Option Spelling) → j ≤ i → noted_at i k es old j ≡ old
low i k j es old le = rw (le-ltb i j le) refl

stored-at : (b : Bool) (i k e j : ℕ) (rest : List ℕ) (old : Option Spelling) (t : List (Option Spelling))
    → nat_eq e j ≡ b → e < length t → i < e → get_or t j None ≡ noted_at i (k + 1) rest old j
    → get_or (set t e (found i k)) j None ≡ noted_at i k (e ∷ rest) old j
stored-at true i k e j rest old t is inside lt so_far =
    let same : e ≡ j = eqb-true e j is in
    subst (λ (x : ℕ). get_or (set t e (found i k)) x None ≡ noted_at i k (e ∷ rest) old x) same
    (get_or-set_same t e (found i k) None inside ∙ sym (hit i k e rest old lt))
stored-at false i k e j rest old t is inside lt so_far =
    let other : e ≡ j → ⊥ = λ h. true≢false (sym (eq-eqb e j h) ∙ is) in
    get_or-set_other t e j (found i k) None (λ h. other (sym h)) ∙ so_far ∙ sym (miss i k e j rest old other)

-- an edge to a node behind is noted
pub stored : (i k e j : ℕ) (rest : List ℕ) (old : Option Spelling) (t : List (Option Spelling))
    → e < length t → i < e → get_or t j None ≡ noted_at i (k + 1) rest old j
    → get_or (set t e (found i k)) j None ≡ noted_at i k (e ∷ rest) old j
stored i k e j rest old t = stored-at (nat_eq e j) i k e j rest old t refl

skipped-at : (b : Bool) (i k e j : ℕ) (rest : List ℕ) (old x : Option Spelling)
    → nat_lt i j ≡ b → e ≤ i → x ≡ noted_at i (k + 1) rest old j → x ≡ noted_at i k (e ∷ rest) old j
skipped-at true i k e j rest old x is le so_far =
    let lt : i < j = ltb-true i j is in
    so_far ∙ sym (miss i k e j rest old (λ h. let no : ⊥ = omega (arith, lt, le, h) in no))
skipped-at false i k e j rest old x is le so_far =
    let below : j ≤ i = ltb-false i j is in
    so_far ∙ low i (k + 1) j rest old below ∙ sym (low i k j (e ∷ rest) old below)

-- any other is not
pub skipped : (i k e j : ℕ) (rest : List ℕ) (old x : Option Spelling)
    → e ≤ i → x ≡ noted_at i (k + 1) rest old j → x ≡ noted_at i k (e ∷ rest) old j
skipped i k e j rest old x = skipped-at (nat_lt i j) i k e j rest old x refl

grown-at : (b : Bool) (g : List Node) (i j : ℕ) (old : Option Spelling) → nat_lt i j ≡ b
    → old ≡ spelled_before g j (min i j)
    → noted_at i 0 (node_at g i).edges old j ≡ spelled_before g j (min (i + 1) j)
unfolding spelled_before
grown-at true g i j old is so_far =
    let lt : i < j = ltb-true i j is in
    let before : min i j ≡ i = omega (arith, lt) in
    let behind : min (i + 1) j ≡ suc i = omega (arith, lt) in
    rw (is, so_far, before, behind) refl
grown-at false g i j old is so_far =
    let below : j ≤ i = ltb-false i j is in
    let same : min i j ≡ min (i + 1) j = omega (arith, below) in
    rw (is, so_far) (ap (spelled_before g j) same)

-- the notes behind one node more
pub grown : (g : List Node) (i j : ℕ) (old : Option Spelling) → old ≡ spelled_before g j (min i j)
    → noted_at i 0 (node_at g i).edges old j ≡ spelled_before g j (min (i + 1) j)
grown g i j old = grown-at (nat_lt i j) g i j old refl

-- at the end
pub all-noted : (g : List Node) (n : ℕ) (t : List (Option Spelling)) → length g ≤ n → length t ≡ length g
    → ((j : ℕ) → j < length g → get_or t j None ≡ spelled_before g j (min n j)) → t ≡ spellings g
all-noted g n t all size each =
    ext_get_or None t (spellings g)
    (size ∙ sym (length-map-range_with_len (spelled_by g) 0 (length g)))
    (λ j lt. let inside : j < length g = omega (arith, lt, size) in
    let whole : min n j ≡ j = omega (arith, inside, all) in
    each j inside ∙ ap (spelled_before g j) whole
    ∙ sym (get_or-map-range_with_len (spelled_by g) 0 (length g) j j None inside (omega arith)))

-- nothing is noted at the beginning
pub before-none : (g : List Node) (j : ℕ) → spelled_before g j (min 0 j) ≡ None
unfolding spelled_before
before-none g j = let none : min 0 j ≡ 0 = omega arith in rw none refl

pub spellings-length : (g : List Node) → length (spellings g) ≡ length g
spellings-length g = length-map-range_with_len (spelled_by g) 0 (length g)

pub spellings-at : (g : List Node) (j : ℕ) (d : Option Spelling) → j < length g → get_or (spellings g) j d ≡ spelled_by g j
spellings-at g j d lt = get_or-map-range_with_len (spelled_by g) 0 (length g) j j d lt (omega arith)

-- a table of none
pub blank-none : IsBlank []
blank-none = record { each = λ j. refl }

blank-at : (xs : List (Option Spelling)) → ((j : ℕ) → get_or xs j None ≡ None) → (j : ℕ)
    → get_or (xs ++ None ∷ []) j None ≡ None
blank-at [] h zero = refl
blank-at [] h (suc j) = refl
blank-at (x ∷ xs) h zero = h 0
blank-at (x ∷ xs) h (suc j) = blank-at xs (λ i. h (suc i)) j

pub blank-more : (xs : List (Option Spelling)) → IsBlank xs → IsBlank (xs ++ None ∷ [])
blank-more xs h = record { each = blank-at xs h.each }

-- what a slice of a vector was left as
pub written-back : (n : ℕ) (new old : List (Option Spelling)) → n ≡ length old → length new ≡ length old
    → take n (new ++ drop (length new) old) ≡ new
written-back n new old all same =
    let none_left : drop (length new) old ≡ [] = drop_all (length new) old (omega (arith, same)) in
    let whole : length new ≤ n = omega (arith, all, same) in
    rw (none_left, append-nil new) (take_all n new whole)
