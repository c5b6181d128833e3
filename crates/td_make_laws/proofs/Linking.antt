-- The lines of a trader's links are read: each of the 64 traders to which one may lead.
use Rattle.std.proofs.Common.{◌≡◌, ℕ, suc, ◌+◌, true, List, codes, Some, refl}
use Rattle.std.specs.Fmt.{digits}
use Rattle.td_lines.proofs.OnLiterals.{links_on_literals}
use Rattle.td_lines.specs.Drafts.{close_entry, has_trader, with_entry}
use Rattle.td_lines.specs.Linked.{inside_link}
use Rattle.td_value.specs.declared.enumerations.FollowOption.TheVariants.{Always}
use Rattle.std.specs.Str.Lines.{lines}
use Rattle.td_make.specs.Generated.{link_line}
use Rattle.td_make_laws.proofs.Passing.{passed}
use Rattle.td_make_laws.proofs.Tables.{Upto}
use Rattle.td_make_laws.proofs.Types.{Draft}
use Rattle.td_make_laws.specs.Said.{name_of}

abbrev pub linked : Draft → ℕ → (name : List ℕ) → (trader : ℕ) → Draft
linked d n name trader = with_entry (close_entry d) (n + 1) (inside_link name (name_of trader) Always Always)

-- where there is a trader, a line of this label links it to that one
abbrev pub IsLinkRead : (label name : List ℕ) → (trader : ℕ) → Type 0
IsLinkRead label name trader =
    (n : ℕ) (d : Draft) → has_trader (close_entry d) ≡ true
    → passed n d (lines (link_line label trader)) ≡ Some (linked d n name trader)

abbrev pub IsNextRead : (trader : ℕ) → Type 0
IsNextRead trader = IsLinkRead (codes "link next T") (codes "next") trader

abbrev pub IsChordRead : (trader : ℕ) → Type 0
IsChordRead trader = IsLinkRead (codes "link chord T") (codes "chord") trader

pub next-1 : IsNextRead 1
unfolding digits links_on_literals
next-1 n d there = rw there refl

pub chord-1 : IsChordRead 1
unfolding digits links_on_literals
chord-1 n d there = rw there refl

pub next-2 : IsNextRead 2
unfolding digits links_on_literals
next-2 n d there = rw there refl

pub chord-2 : IsChordRead 2
unfolding digits links_on_literals
chord-2 n d there = rw there refl

pub next-3 : IsNextRead 3
unfolding digits links_on_literals
next-3 n d there = rw there refl

pub chord-3 : IsChordRead 3
unfolding digits links_on_literals
chord-3 n d there = rw there refl

pub next-4 : IsNextRead 4
unfolding digits links_on_literals
next-4 n d there = rw there refl

pub chord-4 : IsChordRead 4
unfolding digits links_on_literals
chord-4 n d there = rw there refl

pub next-5 : IsNextRead 5
unfolding digits links_on_literals
next-5 n d there = rw there refl

pub chord-5 : IsChordRead 5
unfolding digits links_on_literals
chord-5 n d there = rw there refl

pub next-6 : IsNextRead 6
unfolding digits links_on_literals
next-6 n d there = rw there refl

pub chord-6 : IsChordRead 6
unfolding digits links_on_literals
chord-6 n d there = rw there refl

pub next-7 : IsNextRead 7
unfolding digits links_on_literals
next-7 n d there = rw there refl

pub chord-7 : IsChordRead 7
unfolding digits links_on_literals
chord-7 n d there = rw there refl

pub next-8 : IsNextRead 8
unfolding digits links_on_literals
next-8 n d there = rw there refl

pub chord-8 : IsChordRead 8
unfolding digits links_on_literals
chord-8 n d there = rw there refl

pub next-9 : IsNextRead 9
unfolding digits links_on_literals
next-9 n d there = rw there refl

pub chord-9 : IsChordRead 9
unfolding digits links_on_literals
chord-9 n d there = rw there refl

pub next-10 : IsNextRead 10
unfolding digits links_on_literals
next-10 n d there = rw there refl

pub chord-10 : IsChordRead 10
unfolding digits links_on_literals
chord-10 n d there = rw there refl

pub next-11 : IsNextRead 11
unfolding digits links_on_literals
next-11 n d there = rw there refl

pub chord-11 : IsChordRead 11
unfolding digits links_on_literals
chord-11 n d there = rw there refl

pub next-12 : IsNextRead 12
unfolding digits links_on_literals
next-12 n d there = rw there refl

pub chord-12 : IsChordRead 12
unfolding digits links_on_literals
chord-12 n d there = rw there refl

pub next-13 : IsNextRead 13
unfolding digits links_on_literals
next-13 n d there = rw there refl

pub chord-13 : IsChordRead 13
unfolding digits links_on_literals
chord-13 n d there = rw there refl

pub next-14 : IsNextRead 14
unfolding digits links_on_literals
next-14 n d there = rw there refl

pub chord-14 : IsChordRead 14
unfolding digits links_on_literals
chord-14 n d there = rw there refl

pub next-15 : IsNextRead 15
unfolding digits links_on_literals
next-15 n d there = rw there refl

pub chord-15 : IsChordRead 15
unfolding digits links_on_literals
chord-15 n d there = rw there refl

pub next-16 : IsNextRead 16
unfolding digits links_on_literals
next-16 n d there = rw there refl

pub chord-16 : IsChordRead 16
unfolding digits links_on_literals
chord-16 n d there = rw there refl

pub next-17 : IsNextRead 17
unfolding digits links_on_literals
next-17 n d there = rw there refl

pub chord-17 : IsChordRead 17
unfolding digits links_on_literals
chord-17 n d there = rw there refl

pub next-18 : IsNextRead 18
unfolding digits links_on_literals
next-18 n d there = rw there refl

pub chord-18 : IsChordRead 18
unfolding digits links_on_literals
chord-18 n d there = rw there refl

pub next-19 : IsNextRead 19
unfolding digits links_on_literals
next-19 n d there = rw there refl

pub chord-19 : IsChordRead 19
unfolding digits links_on_literals
chord-19 n d there = rw there refl

pub next-20 : IsNextRead 20
unfolding digits links_on_literals
next-20 n d there = rw there refl

pub chord-20 : IsChordRead 20
unfolding digits links_on_literals
chord-20 n d there = rw there refl

pub next-21 : IsNextRead 21
unfolding digits links_on_literals
next-21 n d there = rw there refl

pub chord-21 : IsChordRead 21
unfolding digits links_on_literals
chord-21 n d there = rw there refl

pub next-22 : IsNextRead 22
unfolding digits links_on_literals
next-22 n d there = rw there refl

pub chord-22 : IsChordRead 22
unfolding digits links_on_literals
chord-22 n d there = rw there refl

pub next-23 : IsNextRead 23
unfolding digits links_on_literals
next-23 n d there = rw there refl

pub chord-23 : IsChordRead 23
unfolding digits links_on_literals
chord-23 n d there = rw there refl

pub next-24 : IsNextRead 24
unfolding digits links_on_literals
next-24 n d there = rw there refl

pub chord-24 : IsChordRead 24
unfolding digits links_on_literals
chord-24 n d there = rw there refl

pub next-25 : IsNextRead 25
unfolding digits links_on_literals
next-25 n d there = rw there refl

pub chord-25 : IsChordRead 25
unfolding digits links_on_literals
chord-25 n d there = rw there refl

pub next-26 : IsNextRead 26
unfolding digits links_on_literals
next-26 n d there = rw there refl

pub chord-26 : IsChordRead 26
unfolding digits links_on_literals
chord-26 n d there = rw there refl

pub next-27 : IsNextRead 27
unfolding digits links_on_literals
next-27 n d there = rw there refl

pub chord-27 : IsChordRead 27
unfolding digits links_on_literals
chord-27 n d there = rw there refl

pub next-28 : IsNextRead 28
unfolding digits links_on_literals
next-28 n d there = rw there refl

pub chord-28 : IsChordRead 28
unfolding digits links_on_literals
chord-28 n d there = rw there refl

pub next-29 : IsNextRead 29
unfolding digits links_on_literals
next-29 n d there = rw there refl

pub chord-29 : IsChordRead 29
unfolding digits links_on_literals
chord-29 n d there = rw there refl

pub next-30 : IsNextRead 30
unfolding digits links_on_literals
next-30 n d there = rw there refl

pub chord-30 : IsChordRead 30
unfolding digits links_on_literals
chord-30 n d there = rw there refl

pub next-31 : IsNextRead 31
unfolding digits links_on_literals
next-31 n d there = rw there refl

pub chord-31 : IsChordRead 31
unfolding digits links_on_literals
chord-31 n d there = rw there refl

pub next-32 : IsNextRead 32
unfolding digits links_on_literals
next-32 n d there = rw there refl

pub chord-32 : IsChordRead 32
unfolding digits links_on_literals
chord-32 n d there = rw there refl

pub next-33 : IsNextRead 33
unfolding digits links_on_literals
next-33 n d there = rw there refl

pub chord-33 : IsChordRead 33
unfolding digits links_on_literals
chord-33 n d there = rw there refl

pub next-34 : IsNextRead 34
unfolding digits links_on_literals
next-34 n d there = rw there refl

pub chord-34 : IsChordRead 34
unfolding digits links_on_literals
chord-34 n d there = rw there refl

pub next-35 : IsNextRead 35
unfolding digits links_on_literals
next-35 n d there = rw there refl

pub chord-35 : IsChordRead 35
unfolding digits links_on_literals
chord-35 n d there = rw there refl

pub next-36 : IsNextRead 36
unfolding digits links_on_literals
next-36 n d there = rw there refl

pub chord-36 : IsChordRead 36
unfolding digits links_on_literals
chord-36 n d there = rw there refl

pub next-37 : IsNextRead 37
unfolding digits links_on_literals
next-37 n d there = rw there refl

pub chord-37 : IsChordRead 37
unfolding digits links_on_literals
chord-37 n d there = rw there refl

pub next-38 : IsNextRead 38
unfolding digits links_on_literals
next-38 n d there = rw there refl

pub chord-38 : IsChordRead 38
unfolding digits links_on_literals
chord-38 n d there = rw there refl

pub next-39 : IsNextRead 39
unfolding digits links_on_literals
next-39 n d there = rw there refl

pub chord-39 : IsChordRead 39
unfolding digits links_on_literals
chord-39 n d there = rw there refl

pub next-40 : IsNextRead 40
unfolding digits links_on_literals
next-40 n d there = rw there refl

pub chord-40 : IsChordRead 40
unfolding digits links_on_literals
chord-40 n d there = rw there refl

pub next-41 : IsNextRead 41
unfolding digits links_on_literals
next-41 n d there = rw there refl

pub chord-41 : IsChordRead 41
unfolding digits links_on_literals
chord-41 n d there = rw there refl

pub next-42 : IsNextRead 42
unfolding digits links_on_literals
next-42 n d there = rw there refl

pub chord-42 : IsChordRead 42
unfolding digits links_on_literals
chord-42 n d there = rw there refl

pub next-43 : IsNextRead 43
unfolding digits links_on_literals
next-43 n d there = rw there refl

pub chord-43 : IsChordRead 43
unfolding digits links_on_literals
chord-43 n d there = rw there refl

pub next-44 : IsNextRead 44
unfolding digits links_on_literals
next-44 n d there = rw there refl

pub chord-44 : IsChordRead 44
unfolding digits links_on_literals
chord-44 n d there = rw there refl

pub next-45 : IsNextRead 45
unfolding digits links_on_literals
next-45 n d there = rw there refl

pub chord-45 : IsChordRead 45
unfolding digits links_on_literals
chord-45 n d there = rw there refl

pub next-46 : IsNextRead 46
unfolding digits links_on_literals
next-46 n d there = rw there refl

pub chord-46 : IsChordRead 46
unfolding digits links_on_literals
chord-46 n d there = rw there refl

pub next-47 : IsNextRead 47
unfolding digits links_on_literals
next-47 n d there = rw there refl

pub chord-47 : IsChordRead 47
unfolding digits links_on_literals
chord-47 n d there = rw there refl

pub next-48 : IsNextRead 48
unfolding digits links_on_literals
next-48 n d there = rw there refl

pub chord-48 : IsChordRead 48
unfolding digits links_on_literals
chord-48 n d there = rw there refl

pub next-49 : IsNextRead 49
unfolding digits links_on_literals
next-49 n d there = rw there refl

pub chord-49 : IsChordRead 49
unfolding digits links_on_literals
chord-49 n d there = rw there refl

pub next-50 : IsNextRead 50
unfolding digits links_on_literals
next-50 n d there = rw there refl

pub chord-50 : IsChordRead 50
unfolding digits links_on_literals
chord-50 n d there = rw there refl

pub next-51 : IsNextRead 51
unfolding digits links_on_literals
next-51 n d there = rw there refl

pub chord-51 : IsChordRead 51
unfolding digits links_on_literals
chord-51 n d there = rw there refl

pub next-52 : IsNextRead 52
unfolding digits links_on_literals
next-52 n d there = rw there refl

pub chord-52 : IsChordRead 52
unfolding digits links_on_literals
chord-52 n d there = rw there refl

pub next-53 : IsNextRead 53
unfolding digits links_on_literals
next-53 n d there = rw there refl

pub chord-53 : IsChordRead 53
unfolding digits links_on_literals
chord-53 n d there = rw there refl

pub next-54 : IsNextRead 54
unfolding digits links_on_literals
next-54 n d there = rw there refl

pub chord-54 : IsChordRead 54
unfolding digits links_on_literals
chord-54 n d there = rw there refl

pub next-55 : IsNextRead 55
unfolding digits links_on_literals
next-55 n d there = rw there refl

pub chord-55 : IsChordRead 55
unfolding digits links_on_literals
chord-55 n d there = rw there refl

pub next-56 : IsNextRead 56
unfolding digits links_on_literals
next-56 n d there = rw there refl

pub chord-56 : IsChordRead 56
unfolding digits links_on_literals
chord-56 n d there = rw there refl

pub next-57 : IsNextRead 57
unfolding digits links_on_literals
next-57 n d there = rw there refl

pub chord-57 : IsChordRead 57
unfolding digits links_on_literals
chord-57 n d there = rw there refl

pub next-58 : IsNextRead 58
unfolding digits links_on_literals
next-58 n d there = rw there refl

pub chord-58 : IsChordRead 58
unfolding digits links_on_literals
chord-58 n d there = rw there refl

pub next-59 : IsNextRead 59
unfolding digits links_on_literals
next-59 n d there = rw there refl

pub chord-59 : IsChordRead 59
unfolding digits links_on_literals
chord-59 n d there = rw there refl

pub next-60 : IsNextRead 60
unfolding digits links_on_literals
next-60 n d there = rw there refl

pub chord-60 : IsChordRead 60
unfolding digits links_on_literals
chord-60 n d there = rw there refl

pub next-61 : IsNextRead 61
unfolding digits links_on_literals
next-61 n d there = rw there refl

pub chord-61 : IsChordRead 61
unfolding digits links_on_literals
chord-61 n d there = rw there refl

pub next-62 : IsNextRead 62
unfolding digits links_on_literals
next-62 n d there = rw there refl

pub chord-62 : IsChordRead 62
unfolding digits links_on_literals
chord-62 n d there = rw there refl

pub next-63 : IsNextRead 63
unfolding digits links_on_literals
next-63 n d there = rw there refl

pub chord-63 : IsChordRead 63
unfolding digits links_on_literals
chord-63 n d there = rw there refl

pub next-64 : IsNextRead 64
unfolding digits links_on_literals
next-64 n d there = rw there refl

pub chord-64 : IsChordRead 64
unfolding digits links_on_literals
chord-64 n d there = rw there refl

nexts-8 : Upto 8 (λ (k : ℕ). IsNextRead (suc k))
nexts-8 = ((((((((tt, next-1), next-2), next-3), next-4), next-5), next-6), next-7), next-8)

nexts-16 : Upto 16 (λ (k : ℕ). IsNextRead (suc k))
nexts-16 = ((((((((nexts-8, next-9), next-10), next-11), next-12), next-13), next-14), next-15), next-16)

nexts-24 : Upto 24 (λ (k : ℕ). IsNextRead (suc k))
nexts-24 = ((((((((nexts-16, next-17), next-18), next-19), next-20), next-21), next-22), next-23), next-24)

nexts-32 : Upto 32 (λ (k : ℕ). IsNextRead (suc k))
nexts-32 = ((((((((nexts-24, next-25), next-26), next-27), next-28), next-29), next-30), next-31), next-32)

nexts-40 : Upto 40 (λ (k : ℕ). IsNextRead (suc k))
nexts-40 = ((((((((nexts-32, next-33), next-34), next-35), next-36), next-37), next-38), next-39), next-40)

nexts-48 : Upto 48 (λ (k : ℕ). IsNextRead (suc k))
nexts-48 = ((((((((nexts-40, next-41), next-42), next-43), next-44), next-45), next-46), next-47), next-48)

nexts-56 : Upto 56 (λ (k : ℕ). IsNextRead (suc k))
nexts-56 = ((((((((nexts-48, next-49), next-50), next-51), next-52), next-53), next-54), next-55), next-56)

pub all-nexts : Upto 64 (λ (k : ℕ). IsNextRead (suc k))
all-nexts = ((((((((nexts-56, next-57), next-58), next-59), next-60), next-61), next-62), next-63), next-64)

chords-8 : Upto 8 (λ (k : ℕ). IsChordRead (suc k))
chords-8 = ((((((((tt, chord-1), chord-2), chord-3), chord-4), chord-5), chord-6), chord-7), chord-8)

chords-16 : Upto 16 (λ (k : ℕ). IsChordRead (suc k))
chords-16 = ((((((((chords-8, chord-9), chord-10), chord-11), chord-12), chord-13), chord-14), chord-15), chord-16)

chords-24 : Upto 24 (λ (k : ℕ). IsChordRead (suc k))
chords-24 = ((((((((chords-16, chord-17), chord-18), chord-19), chord-20), chord-21), chord-22), chord-23), chord-24)

chords-32 : Upto 32 (λ (k : ℕ). IsChordRead (suc k))
chords-32 = ((((((((chords-24, chord-25), chord-26), chord-27), chord-28), chord-29), chord-30), chord-31), chord-32)

chords-40 : Upto 40 (λ (k : ℕ). IsChordRead (suc k))
chords-40 = ((((((((chords-32, chord-33), chord-34), chord-35), chord-36), chord-37), chord-38), chord-39), chord-40)

chords-48 : Upto 48 (λ (k : ℕ). IsChordRead (suc k))
chords-48 = ((((((((chords-40, chord-41), chord-42), chord-43), chord-44), chord-45), chord-46), chord-47), chord-48)

chords-56 : Upto 56 (λ (k : ℕ). IsChordRead (suc k))
chords-56 = ((((((((chords-48, chord-49), chord-50), chord-51), chord-52), chord-53), chord-54), chord-55), chord-56)

pub all-chords : Upto 64 (λ (k : ℕ). IsChordRead (suc k))
all-chords = ((((((((chords-56, chord-57), chord-58), chord-59), chord-60), chord-61), chord-62), chord-63), chord-64)
