-- A generated file is read, trader by trader.
use Rattle.std.proofs.Common.{◌≡◌, ℕ, zero, suc, ◌+◌, ◌%◌, ◌<◌, ◌≤◌, nat_eq, Bool, true, false, not, List, []}
use Rattle.std.proofs.Common.{◌∷◌}
use Rattle.std.proofs.Common.{◌++◌, length, map, codes, Some, refl, sym, ap, ◌∙◌, subst, append_assoc, append-nil}
use Rattle.std.proofs.Common.{arith, if◌then◌else◌}
use Rattle.std.proofs.lemmas.Bool.{ne_eqb}
use Rattle.std.proofs.lemmas.List.{length-append}
use Rattle.std.specs.Str.Lines.{lines}
use Rattle.td_lines.proofs.OnLiterals.{address_on_literals}
use Rattle.td_lines.specs.Drafts.{close_entry, has_trader, nothing_yet}
use Rattle.td_lines.specs.Heads.{last_trader}
use Rattle.td_lines.specs.Scripts.{rest_of_file, script_of}
use Rattle.td_lines.specs.declared.entry.FileEntry.{FileEntry}
use Rattle.td_lines.specs.declared.entry.Numbered.{Numbered}
use Rattle.td_lines.specs.declared.entry.Script.{Script}
use Rattle.td_lines.specs.declared.entry.TraderScript.{TraderScript}
use Rattle.td_make.specs.Generated.{chord_after, first_offers, first_traders, generated_file, trader_heading, link_line}
use Rattle.td_make.specs.Generated.{next_after}
use Rattle.td_make.specs.Generated.{cost, cost_line, offer_line, offer_lines, trader_lines}
use Rattle.td_make_laws.proofs.Heads.{HeadIsRead, IsHeadRead, all_said, between, head, last_of, within}
use Rattle.td_make_laws.proofs.Joined.{Ends, ends-joined}
use Rattle.td_make_laws.proofs.Linking.{IsLinkRead, linked}
use Rattle.td_make_laws.proofs.Passing.{passed, text-passes}
use Rattle.td_make_laws.proofs.Tables.{Upto, at}
use Rattle.td_make_laws.proofs.Types.{Draft}
use Rattle.td_forms.specs.Counted.{label_number}
use Rattle.td_make_laws.specs.Said.{PlainScript, SaysRing, plain_script, entries_in, first_names, head_entries}
use Rattle.td_make_laws.specs.Said.{link_entries}
use Rattle.td_make_laws.specs.Said.{link_entry, name_of, ring_traders}

-- ---- ends of texts

feed : Ends (codes "\n")
feed = record { front = []; is = refl }

always : Ends (codes " always always\n")
always = record { front = codes " always always"; is = refl }

head-ends : (trader : ℕ) → Ends (head trader)
head-ends trader =
    ends-joined (trader_heading trader) (first_offers trader 10)
    (ends-joined (first_offers trader 9) (offer_lines trader 10)
    (ends-joined (offer_line trader 10) (cost_line trader 10)
    (ends-joined (label_number (codes "with ulong Cost ") (cost trader 10)) (codes "\n") feed)))

link-ends : (label : List ℕ) (trader : ℕ) → Ends (link_line label trader)
link-ends label trader = ends-joined (label_number label trader) (codes " always always\n") always

-- ---- what was said has a trader

named : (xs : List (List ℕ)) (x : List ℕ) → not (nat_eq (length (xs ++ x ∷ [])) 0) ≡ true
named xs x =
    let count : length (xs ++ x ∷ []) ≡ length xs + 1 = length-append xs (x ∷ []) in
    rw (ne_eqb (length (xs ++ x ∷ [])) 0 (λ e. absurd (omega (arith, e, count)))) refl

map-last : {A B : Type 0} (f : A → B) (xs : List A) (x : A) → map f (xs ++ x ∷ []) ≡ map f xs ++ f x ∷ []
map-last f [] x = refl
map-last {B = B} f (y ∷ xs) x = ap (λ (ys : List B). f y ∷ ys) (map-last f xs x)

-- ---- so many traders are read

-- this much of the file
abbrev so_far : (count done : ℕ) → List ℕ
so_far count done = codes "address 127.0.0.1 2809\n" ++ first_traders count done

record Reaches (count done : ℕ) : Type 0 where
  n : ℕ
  before : List TraderScript
  last : TraderScript
  typed : Bool
  names : map (λ (t : TraderScript). t.name) (all_said done before last) ≡ first_names done
  traders : map plain_script (all_said done before last) ≡ ring_traders count done
  reads : (rest : List ℕ) → rest_of_file 0 nothing_yet (lines (so_far count done ++ rest))
      ≡ rest_of_file n (between (first_names done) before (last_of done last) typed) (lines rest)

address-passes : passed 0 nothing_yet (lines (codes "address 127.0.0.1 2809\n"))
    ≡ Some (between [] [] (record { name = []; interfaces = []; entries = [] }) false)
unfolding address_on_literals
address-passes = refl

at-first : (count : ℕ) → Reaches count 0
at-first count = record {
  n = 1;
  before = [];
  last = record { name = []; interfaces = []; entries = [] };
  typed = false;
  names = refl;
  traders = refl;
  reads = λ rest.
      text-passes (codes "address 127.0.0.1 2809\n") rest 0 nothing_yet
      (between [] [] (record { name = []; interfaces = []; entries = [] }) false)
      (record { front = codes "address 127.0.0.1 2809"; is = refl }) address-passes;
}

module _ (count done : ℕ) (r : Reaches count done)
    (h : HeadIsRead done r.n r.before r.last r.typed)
    (next : IsLinkRead (codes "link next T") (codes "next") (next_after count (suc done)))
    (chord : IsLinkRead (codes "link chord T") (codes "chord") (chord_after count (suc done))) where
  abbrev trader : ℕ
  trader = suc done

  abbrev others : List TraderScript
  others = all_said done r.before r.last

  abbrev headed : Draft
  headed = within done others h.entries h.offer

  abbrev n1 : ℕ
  n1 = r.n + length (lines (head trader))

  abbrev first_link : List ℕ
  first_link = link_line (codes "link next T") (next_after count trader)

  abbrev second_link : List ℕ
  second_link = link_line (codes "link chord T") (chord_after count trader)

  abbrev once_linked : Draft
  once_linked = linked headed n1 (codes "next") (next_after count trader)

  abbrev n2 : ℕ
  n2 = n1 + length (lines first_link)

  abbrev twice_linked : Draft
  twice_linked = linked once_linked n2 (codes "chord") (chord_after count trader)

  abbrev n3 : ℕ
  n3 = n2 + length (lines second_link)

  there : not (nat_eq (length (first_names trader)) 0) ≡ true
  there = named (first_names done) (name_of trader)

  apart : (rest : List ℕ) → so_far count trader ++ rest
      ≡ so_far count done ++ (head trader ++ (first_link ++ (second_link ++ rest)))
  apart rest =
      let a : List ℕ = codes "address 127.0.0.1 2809\n" in
      let f : List ℕ = first_traders count done in
      let t : List ℕ = trader_lines count trader in
      ap (λ (x : List ℕ). x ++ rest) (sym (append_assoc a f t))
      ∙ (append_assoc (a ++ f) t rest
      ∙ ap (λ (x : List ℕ). (a ++ f) ++ x) (append_assoc (head trader) (first_link ++ second_link) rest
      ∙ ap (λ (x : List ℕ). head trader ++ x) (append_assoc first_link second_link rest)))

  abbrev last_said : TraderScript
  last_said = record { name = name_of trader; interfaces = []; entries = twice_linked.entries }

  abbrev asked_so : List FileEntry → PlainScript
  asked_so es = record { name = name_of trader; interfaces = []; entries = es }

  abbrev first_entry : FileEntry
  first_entry = link_entry (codes "next") (next_after count trader)

  abbrev second_entry : FileEntry
  second_entry = link_entry (codes "chord") (chord_after count trader)

  said : entries_in twice_linked.entries ≡ head_entries trader ++ link_entries count trader
  said =
      map-last (λ (one : Numbered). one.entry) once_linked.entries _
      ∙ ap (λ (es : List FileEntry). es ++ second_entry ∷ [])
      (map-last (λ (one : Numbered). one.entry) (close_entry headed).entries _
      ∙ ap (λ (es : List FileEntry). es ++ first_entry ∷ []) h.says)
      ∙ append_assoc (head_entries trader) (first_entry ∷ []) (second_entry ∷ [])

  one-more : Reaches count trader
  one-more = record {
    n = n3;
    before = others;
    last = last_said;
    typed = true;
    names =
        map-last (λ (t : TraderScript). t.name) others last_said
        ∙ ap (λ (names : List (List ℕ)). names ++ name_of trader ∷ []) r.names;
    traders =
        map-last plain_script others last_said
        ∙ ap (λ (ts : List PlainScript). ts ++ plain_script last_said ∷ []) r.traders
        ∙ ap (λ (es : List FileEntry). ring_traders count done ++ asked_so es ∷ []) said;
    reads = λ rest.
        ap (λ (x : List ℕ). rest_of_file 0 nothing_yet (lines x)) (apart rest)
        ∙ (r.reads (head trader ++ (first_link ++ (second_link ++ rest)))
        ∙ (text-passes (head trader) (first_link ++ (second_link ++ rest)) r.n
        (between (first_names done) r.before (last_of done r.last) r.typed) headed (head-ends trader) h.is
        ∙ (text-passes first_link (second_link ++ rest) n1 headed once_linked
        (link-ends (codes "link next T") (next_after count trader)) (next n1 headed there)
        ∙ text-passes second_link rest n2 once_linked twice_linked
        (link-ends (codes "link chord T") (chord_after count trader)) (chord n2 once_linked there))));
  }

-- all traders are there
all-read : (count : ℕ) → 1 ≤ count → Reaches count count → SaysRing count (script_of (generated_file count))
unfolding script_of
all-read zero least r = absurd (omega arith)
all-read (suc done) least r =
    let d : Draft = between (first_names (suc done)) r.before r.last r.typed in
    let there : has_trader d ≡ true = named (first_names done) (name_of (suc done)) in
    let text : List ℕ = generated_file (suc done) in
    let is : script_of text ≡ rest_of_file r.n d [] =
    ap (λ (x : List ℕ). rest_of_file 0 nothing_yet (lines x)) (sym (append-nil text)) ∙ r.reads [] in
    subst (λ (s : Script). SaysRing (suc done) s) (sym is) (record {
      read = refl;
      home = refl;
      names = subst (λ (b : Bool). map (λ (t : TraderScript). t.name) ((if b then record d {
        finished = d.finished ++ last_trader d ∷ [];
        name = [];
        interfaces = [];
        entries = [];
      } else d).finished) ≡ first_names (suc done)) (sym there) r.names;
      traders = subst (λ (b : Bool). map plain_script ((if b then record d {
        finished = d.finished ++ last_trader d ∷ [];
        name = [];
        interfaces = [];
        entries = [];
      } else d).finished) ≡ ring_traders (suc done) (suc done)) (sym there) r.traders;
    })

-- ---- the whole file

module _ (heads : Upto 64 IsHeadRead)
    (nexts : Upto 64 (λ (k : ℕ). IsLinkRead (codes "link next T") (codes "next") (suc k)))
    (chords : Upto 64 (λ (k : ℕ). IsLinkRead (codes "link chord T") (codes "chord") (suc k))) where
  module _ (count : ℕ) (least : 1 ≤ count) (most : count ≤ 64) where
    link-at : (label name : List ℕ) → Upto 64 (λ (k : ℕ). IsLinkRead label name (suc k)) → (m : ℕ)
        → IsLinkRead label name (m % count + 1)
    link-at label name all m =
        let less : m % count < 64 = omega (arith, least, most) in
        let same : suc (m % count) ≡ m % count + 1 = omega arith in
        subst (λ (j : ℕ). IsLinkRead label name j) same
        (at (λ (j : ℕ). IsLinkRead label name (suc j)) 64 all (m % count) less)

    reached : (done : ℕ) → done ≤ count → Reaches count done
    reached zero le = at-first count
    reached (suc done) le =
        let r = reached done (omega (arith, le)) in
        one-more count done r
        (at IsHeadRead 64 heads done (omega (arith, le, most)) r.n r.before r.last r.typed)
        (link-at (codes "link next T") (codes "next") nexts (suc done))
        (link-at (codes "link chord T") (codes "chord") chords (suc done + 2))

    pub says-ring : SaysRing count (script_of (generated_file count))
    says-ring = all-read count least (reached count (omega arith))
