-- No link of a generated file leads to a trader that the file doesn't have.
use Rattle.std.proofs.Common.{◌≡◌, ℕ, zero, suc, ◌+◌, ◌%◌, ◌<◌, ◌≤◌, nat_lt, Bool, true, false, not, ◌||◌}
use Rattle.std.proofs.Common.{if◌then◌else◌, List, [], ◌∷◌, ◌++◌, codes, map, Option, Some, None, refl, sym, ap, subst}
use Rattle.std.proofs.Common.{◌∙◌, arith}
use Rattle.std.proofs.lemmas.Bool.{ltb-false, ltb-true}
use Rattle.std.proofs.lemmas.List.Folds.{list_any-append}
use Rattle.std.proofs.lemmas.Slice.Eq.{bytes_eq-Decides}
use Rattle.std.specs.List.{list_any}
use Rattle.std.specs.Str.{bytes_eq}
use Rattle.td_file.specs.Openings.{is_known, is_missing, missing_among, missing_in, names_in, or_later}
use Rattle.td_lines.specs.declared.entry.FileEntry.{FileEntry}
use Rattle.td_lines.specs.declared.entry.Numbered.{Numbered}
use Rattle.td_lines.specs.declared.entry.TraderScript.{TraderScript}
use Rattle.td_make.specs.Generated.{chord_after, next_after}
use Rattle.td_make_laws.specs.Said.{PlainScript, plain_script, entries_in, first_names, head_entries, link_entries}
use Rattle.td_make_laws.specs.Said.{link_entry}
use Rattle.td_make_laws.specs.Said.{name_of, offer_entries, ring_trader, ring_traders}

-- ---- the names that the file has

among : (name : List ℕ) (ts : List TraderScript) → is_known name ts ≡ list_any (bytes_eq name) (names_in ts)
among name [] = refl
among name (t ∷ ts) = ap (λ (b : Bool). bytes_eq name t.name || b) (among name ts)

or-true : (b : Bool) → (b || true) ≡ true
or-true true = refl
or-true false = refl

bytes-same : (x : List ℕ) → bytes_eq x x ≡ true
bytes-same x = (bytes_eq-Decides x x).1 refl

-- the name of one of the first so many traders is among their names
name-among : (done trader : ℕ) → 1 ≤ trader → trader ≤ done
    → list_any (bytes_eq (name_of trader)) (first_names done) ≡ true
name-among zero trader least most = absurd (omega (arith, least, most))
name-among (suc done) trader least most =
    list_any-append (bytes_eq (name_of trader)) (first_names done) (name_of (suc done) ∷ [])
    ∙ by_last (nat_lt done trader) refl (name-among done trader least)
  where
    by_last : (b : Bool) → nat_lt done trader ≡ b
        → (trader ≤ done → list_any (bytes_eq (name_of trader)) (first_names done) ≡ true)
        → (list_any (bytes_eq (name_of trader)) (first_names done)
        || list_any (bytes_eq (name_of trader)) (name_of (suc done) ∷ []))
        ≡ true
    by_last true above earlier =
        let more : done < trader = ltb-true done trader above in
        let same : trader ≡ suc done = omega (arith, more, most) in
        ap (λ (x : List ℕ). list_any (bytes_eq (name_of trader)) (first_names done)
        || (bytes_eq (name_of trader) x || false))
        (sym (ap name_of same))
        ∙ (ap (λ (b : Bool). list_any (bytes_eq (name_of trader)) (first_names done) || (b || false))
        (bytes-same (name_of trader))
        ∙ or-true (list_any (bytes_eq (name_of trader)) (first_names done)))
    by_last false below earlier =
        ap (λ (b : Bool). b || list_any (bytes_eq (name_of trader)) (name_of (suc done) ∷ []))
        (earlier (ltb-false done trader below))

-- ---- entries that lack no trader

any-free : (f : FileEntry → Bool) (xs ys : List FileEntry) → list_any f xs ≡ false → list_any f ys ≡ false
    → list_any f (xs ++ ys) ≡ false
any-free f xs ys d e = list_any-append f xs ys ∙ (rw (d, e) refl)

none-among : (all : List TraderScript) (entries : List Numbered)
    → list_any (is_missing all) (entries_in entries) ≡ false → missing_among all entries ≡ None
none-among all [] h = refl
none-among all (one ∷ others) h = by_test (is_missing all one.entry) h (none-among all others)
  where
    by_test : (b : Bool) → (b || list_any (is_missing all) (entries_in others)) ≡ false
        → (list_any (is_missing all) (entries_in others) ≡ false → missing_among all others ≡ None)
        → (if b then Some one.line else missing_among all others) ≡ None
    by_test true h more = absurd cc
    by_test false h more = more h

-- what is asked of a trader lacks a trader
abbrev lacks : List TraderScript → PlainScript → Bool
lacks all a = list_any (is_missing all) a.entries

none-in : (all ts : List TraderScript) → list_any (lacks all) (map plain_script ts) ≡ false → missing_in all ts ≡ None
none-in all [] h = refl
none-in all (t ∷ ts) h =
    by_test (lacks all (plain_script t)) (list_any (lacks all) (map plain_script ts)) h (none-among all t.entries) (none-in all ts)
  where
    by_test : (a b : Bool) → (a || b) ≡ false → (a ≡ false → missing_among all t.entries ≡ None)
        → (b ≡ false → missing_in all ts ≡ None)
        → or_later (missing_among all t.entries) (missing_in all ts) ≡ None
    by_test true b h first others = absurd cc
    by_test false b h first others = ap (λ (o : Option ℕ). or_later o (missing_in all ts)) (first refl) ∙ others h

module _ (count : ℕ) (all : List TraderScript) (least : 1 ≤ count) (names : names_in all ≡ first_names count) where
  known : (trader : ℕ) → 1 ≤ trader → trader ≤ count → is_known (name_of trader) all ≡ true
  known trader first last =
      among (name_of trader) all
      ∙ (ap (λ (ns : List (List ℕ)). list_any (bytes_eq (name_of trader)) ns) names
      ∙ name-among count trader first last)

  offers-free : (trader done : ℕ) → list_any (is_missing all) (offer_entries trader done) ≡ false
  offers-free trader zero = refl
  offers-free trader (suc done) =
      any-free (is_missing all) (offer_entries trader done) _ (offers-free trader done) refl

  link-free : (name : List ℕ) (trader : ℕ) → 1 ≤ trader → trader ≤ count
      → is_missing all (link_entry name trader) ≡ false
  link-free name trader first last = ap not (known trader first last)

  links-free : (trader : ℕ) → list_any (is_missing all) (link_entries count trader) ≡ false
  links-free trader =
      let next =
      link-free (codes "next") (next_after count trader) (omega (arith, least)) (omega (arith, least)) in
      let chord =
      link-free (codes "chord") (chord_after count trader) (omega (arith, least)) (omega (arith, least)) in
      ap (λ (b : Bool). b || (is_missing all (link_entry (codes "chord") (chord_after count trader)) || false)) next
      ∙ ap (λ (b : Bool). b || false) chord

  trader-free : (trader : ℕ) → lacks all (ring_trader count trader) ≡ false
  trader-free trader =
      any-free (is_missing all) (head_entries trader) (link_entries count trader) (offers-free trader 10)
      (links-free trader)

  traders-free : (done : ℕ) → list_any (lacks all) (ring_traders count done) ≡ false
  traders-free zero = refl
  traders-free (suc done) =
      list_any-append (lacks all) (ring_traders count done) (ring_trader count (suc done) ∷ [])
      ∙ (ap (λ (b : Bool). b || (lacks all (ring_trader count (suc done)) || false)) (traders-free done)
      ∙ ap (λ (b : Bool). b || false) (trader-free (suc done)))

  pub none-missing : map plain_script all ≡ ring_traders count count → missing_in all all ≡ None
  none-missing says =
      none-in all all (ap (λ (asks : List PlainScript). list_any (lacks all) asks) says ∙ traders-free count)
