-- The lines of a trader of a generated file, in front of its links: each of the 64 traders that there may be is read.
use Rattle.std.proofs.Common.{◌≡◌, ℕ, zero, suc, Bool, true, List, [], ◌∷◌, ◌++◌, Some, None, refl}
use Rattle.std.specs.Fmt.{digits}
use Rattle.td_forms.specs.Values.{item_value}
use Rattle.td_ior.specs.Texts.{cut_last, parts_of}
use Rattle.td_lines.proofs.OnLiterals.{types_on_literals}
use Rattle.td_lines.specs.Drafts.{close_entry, nothing_yet}
use Rattle.td_lines.specs.Offered.{with_new_offer, with_offer, with_value}
use Rattle.td_lines.specs.Words.{two_and_text}
use Rattle.td_lines.specs.declared.entry.Numbered.{Numbered}
use Rattle.td_lines.specs.declared.entry.TraderScript.{TraderScript}
use Rattle.std.specs.Str.Lines.{lines}
use Rattle.td_make.specs.Generated.{first_offers, trader_heading}
use Rattle.td_make_laws.proofs.Passing.{passed}
use Rattle.td_make_laws.proofs.Tables.{Upto}
use Rattle.td_make_laws.proofs.Types.{Draft, OpenOffer}
use Rattle.td_make_laws.specs.Said.{entries_in, first_names, head_entries, local_host, name_of}

-- a trader, its types and its offers
abbrev pub head : (trader : ℕ) → List ℕ
head trader = trader_heading trader ++ first_offers trader 10

-- what was said in front of the next trader
abbrev pub between : List (List ℕ) → List TraderScript → TraderScript → (typed : Bool) → Draft
between names before last typed = record {
  home = Some local_host;
  seed = None;
  iiop = nothing_yet.iiop;
  names = names;
  finished = before;
  name = last.name;
  interfaces = last.interfaces;
  typed = typed;
  entries = last.entries;
  above = nothing_yet.above;
}

-- the traders of whom all is said, once the next one comes
abbrev pub all_said : (done : ℕ) → List TraderScript → TraderScript → List TraderScript
all_said zero before last = before
all_said (suc done) before last = before ++ last ∷ []

-- in front of the first one nothing is said of another
abbrev pub last_of : (done : ℕ) → TraderScript → TraderScript
last_of zero last = record { name = []; interfaces = []; entries = [] }
last_of (suc done) last = last

-- what is said then
abbrev pub within : (done : ℕ) → List TraderScript → List Numbered → OpenOffer → Draft
within done before entries offer = with_new_offer (record {
  home = Some local_host;
  seed = None;
  iiop = nothing_yet.iiop;
  names = first_names (suc done);
  finished = before;
  name = name_of (suc done);
  interfaces = [];
  typed = true;
  entries = entries;
  above = nothing_yet.above;
}) offer

pub record HeadIsRead (done n : ℕ) (before : List TraderScript) (last : TraderScript) (typed : Bool) : Type 0 where
  pub entries : List Numbered
  pub offer : OpenOffer
  pub is : passed n (between (first_names done) before (last_of done last) typed) (lines (head (suc done)))
      ≡ Some (within done (all_said done before last) entries offer)
  pub says : entries_in (close_entry (within done (all_said done before last) entries offer)).entries
      ≡ head_entries (suc done)

abbrev pub IsHeadRead : (done : ℕ) → Type 0
IsHeadRead done =
    (n : ℕ) (before : List TraderScript) (last : TraderScript) (typed : Bool) → HeadIsRead done n before last typed

pub head-1 : IsHeadRead 0
unfolding digits types_on_literals with_offer with_value two_and_text cut_last parts_of item_value
head-1 n before last typed = record { entries = _; offer = _; is = refl; says = refl }

pub head-2 : IsHeadRead 1
unfolding digits types_on_literals with_offer with_value two_and_text cut_last parts_of item_value
head-2 n before last typed = record { entries = _; offer = _; is = refl; says = refl }

pub head-3 : IsHeadRead 2
unfolding digits types_on_literals with_offer with_value two_and_text cut_last parts_of item_value
head-3 n before last typed = record { entries = _; offer = _; is = refl; says = refl }

pub head-4 : IsHeadRead 3
unfolding digits types_on_literals with_offer with_value two_and_text cut_last parts_of item_value
head-4 n before last typed = record { entries = _; offer = _; is = refl; says = refl }

pub head-5 : IsHeadRead 4
unfolding digits types_on_literals with_offer with_value two_and_text cut_last parts_of item_value
head-5 n before last typed = record { entries = _; offer = _; is = refl; says = refl }

pub head-6 : IsHeadRead 5
unfolding digits types_on_literals with_offer with_value two_and_text cut_last parts_of item_value
head-6 n before last typed = record { entries = _; offer = _; is = refl; says = refl }

pub head-7 : IsHeadRead 6
unfolding digits types_on_literals with_offer with_value two_and_text cut_last parts_of item_value
head-7 n before last typed = record { entries = _; offer = _; is = refl; says = refl }

pub head-8 : IsHeadRead 7
unfolding digits types_on_literals with_offer with_value two_and_text cut_last parts_of item_value
head-8 n before last typed = record { entries = _; offer = _; is = refl; says = refl }

pub head-9 : IsHeadRead 8
unfolding digits types_on_literals with_offer with_value two_and_text cut_last parts_of item_value
head-9 n before last typed = record { entries = _; offer = _; is = refl; says = refl }

pub head-10 : IsHeadRead 9
unfolding digits types_on_literals with_offer with_value two_and_text cut_last parts_of item_value
head-10 n before last typed = record { entries = _; offer = _; is = refl; says = refl }

pub head-11 : IsHeadRead 10
unfolding digits types_on_literals with_offer with_value two_and_text cut_last parts_of item_value
head-11 n before last typed = record { entries = _; offer = _; is = refl; says = refl }

pub head-12 : IsHeadRead 11
unfolding digits types_on_literals with_offer with_value two_and_text cut_last parts_of item_value
head-12 n before last typed = record { entries = _; offer = _; is = refl; says = refl }

pub head-13 : IsHeadRead 12
unfolding digits types_on_literals with_offer with_value two_and_text cut_last parts_of item_value
head-13 n before last typed = record { entries = _; offer = _; is = refl; says = refl }

pub head-14 : IsHeadRead 13
unfolding digits types_on_literals with_offer with_value two_and_text cut_last parts_of item_value
head-14 n before last typed = record { entries = _; offer = _; is = refl; says = refl }

pub head-15 : IsHeadRead 14
unfolding digits types_on_literals with_offer with_value two_and_text cut_last parts_of item_value
head-15 n before last typed = record { entries = _; offer = _; is = refl; says = refl }

pub head-16 : IsHeadRead 15
unfolding digits types_on_literals with_offer with_value two_and_text cut_last parts_of item_value
head-16 n before last typed = record { entries = _; offer = _; is = refl; says = refl }

pub head-17 : IsHeadRead 16
unfolding digits types_on_literals with_offer with_value two_and_text cut_last parts_of item_value
head-17 n before last typed = record { entries = _; offer = _; is = refl; says = refl }

pub head-18 : IsHeadRead 17
unfolding digits types_on_literals with_offer with_value two_and_text cut_last parts_of item_value
head-18 n before last typed = record { entries = _; offer = _; is = refl; says = refl }

pub head-19 : IsHeadRead 18
unfolding digits types_on_literals with_offer with_value two_and_text cut_last parts_of item_value
head-19 n before last typed = record { entries = _; offer = _; is = refl; says = refl }

pub head-20 : IsHeadRead 19
unfolding digits types_on_literals with_offer with_value two_and_text cut_last parts_of item_value
head-20 n before last typed = record { entries = _; offer = _; is = refl; says = refl }

pub head-21 : IsHeadRead 20
unfolding digits types_on_literals with_offer with_value two_and_text cut_last parts_of item_value
head-21 n before last typed = record { entries = _; offer = _; is = refl; says = refl }

pub head-22 : IsHeadRead 21
unfolding digits types_on_literals with_offer with_value two_and_text cut_last parts_of item_value
head-22 n before last typed = record { entries = _; offer = _; is = refl; says = refl }

pub head-23 : IsHeadRead 22
unfolding digits types_on_literals with_offer with_value two_and_text cut_last parts_of item_value
head-23 n before last typed = record { entries = _; offer = _; is = refl; says = refl }

pub head-24 : IsHeadRead 23
unfolding digits types_on_literals with_offer with_value two_and_text cut_last parts_of item_value
head-24 n before last typed = record { entries = _; offer = _; is = refl; says = refl }

pub head-25 : IsHeadRead 24
unfolding digits types_on_literals with_offer with_value two_and_text cut_last parts_of item_value
head-25 n before last typed = record { entries = _; offer = _; is = refl; says = refl }

pub head-26 : IsHeadRead 25
unfolding digits types_on_literals with_offer with_value two_and_text cut_last parts_of item_value
head-26 n before last typed = record { entries = _; offer = _; is = refl; says = refl }

pub head-27 : IsHeadRead 26
unfolding digits types_on_literals with_offer with_value two_and_text cut_last parts_of item_value
head-27 n before last typed = record { entries = _; offer = _; is = refl; says = refl }

pub head-28 : IsHeadRead 27
unfolding digits types_on_literals with_offer with_value two_and_text cut_last parts_of item_value
head-28 n before last typed = record { entries = _; offer = _; is = refl; says = refl }

pub head-29 : IsHeadRead 28
unfolding digits types_on_literals with_offer with_value two_and_text cut_last parts_of item_value
head-29 n before last typed = record { entries = _; offer = _; is = refl; says = refl }

pub head-30 : IsHeadRead 29
unfolding digits types_on_literals with_offer with_value two_and_text cut_last parts_of item_value
head-30 n before last typed = record { entries = _; offer = _; is = refl; says = refl }

pub head-31 : IsHeadRead 30
unfolding digits types_on_literals with_offer with_value two_and_text cut_last parts_of item_value
head-31 n before last typed = record { entries = _; offer = _; is = refl; says = refl }

pub head-32 : IsHeadRead 31
unfolding digits types_on_literals with_offer with_value two_and_text cut_last parts_of item_value
head-32 n before last typed = record { entries = _; offer = _; is = refl; says = refl }

pub head-33 : IsHeadRead 32
unfolding digits types_on_literals with_offer with_value two_and_text cut_last parts_of item_value
head-33 n before last typed = record { entries = _; offer = _; is = refl; says = refl }

pub head-34 : IsHeadRead 33
unfolding digits types_on_literals with_offer with_value two_and_text cut_last parts_of item_value
head-34 n before last typed = record { entries = _; offer = _; is = refl; says = refl }

pub head-35 : IsHeadRead 34
unfolding digits types_on_literals with_offer with_value two_and_text cut_last parts_of item_value
head-35 n before last typed = record { entries = _; offer = _; is = refl; says = refl }

pub head-36 : IsHeadRead 35
unfolding digits types_on_literals with_offer with_value two_and_text cut_last parts_of item_value
head-36 n before last typed = record { entries = _; offer = _; is = refl; says = refl }

pub head-37 : IsHeadRead 36
unfolding digits types_on_literals with_offer with_value two_and_text cut_last parts_of item_value
head-37 n before last typed = record { entries = _; offer = _; is = refl; says = refl }

pub head-38 : IsHeadRead 37
unfolding digits types_on_literals with_offer with_value two_and_text cut_last parts_of item_value
head-38 n before last typed = record { entries = _; offer = _; is = refl; says = refl }

pub head-39 : IsHeadRead 38
unfolding digits types_on_literals with_offer with_value two_and_text cut_last parts_of item_value
head-39 n before last typed = record { entries = _; offer = _; is = refl; says = refl }

pub head-40 : IsHeadRead 39
unfolding digits types_on_literals with_offer with_value two_and_text cut_last parts_of item_value
head-40 n before last typed = record { entries = _; offer = _; is = refl; says = refl }

pub head-41 : IsHeadRead 40
unfolding digits types_on_literals with_offer with_value two_and_text cut_last parts_of item_value
head-41 n before last typed = record { entries = _; offer = _; is = refl; says = refl }

pub head-42 : IsHeadRead 41
unfolding digits types_on_literals with_offer with_value two_and_text cut_last parts_of item_value
head-42 n before last typed = record { entries = _; offer = _; is = refl; says = refl }

pub head-43 : IsHeadRead 42
unfolding digits types_on_literals with_offer with_value two_and_text cut_last parts_of item_value
head-43 n before last typed = record { entries = _; offer = _; is = refl; says = refl }

pub head-44 : IsHeadRead 43
unfolding digits types_on_literals with_offer with_value two_and_text cut_last parts_of item_value
head-44 n before last typed = record { entries = _; offer = _; is = refl; says = refl }

pub head-45 : IsHeadRead 44
unfolding digits types_on_literals with_offer with_value two_and_text cut_last parts_of item_value
head-45 n before last typed = record { entries = _; offer = _; is = refl; says = refl }

pub head-46 : IsHeadRead 45
unfolding digits types_on_literals with_offer with_value two_and_text cut_last parts_of item_value
head-46 n before last typed = record { entries = _; offer = _; is = refl; says = refl }

pub head-47 : IsHeadRead 46
unfolding digits types_on_literals with_offer with_value two_and_text cut_last parts_of item_value
head-47 n before last typed = record { entries = _; offer = _; is = refl; says = refl }

pub head-48 : IsHeadRead 47
unfolding digits types_on_literals with_offer with_value two_and_text cut_last parts_of item_value
head-48 n before last typed = record { entries = _; offer = _; is = refl; says = refl }

pub head-49 : IsHeadRead 48
unfolding digits types_on_literals with_offer with_value two_and_text cut_last parts_of item_value
head-49 n before last typed = record { entries = _; offer = _; is = refl; says = refl }

pub head-50 : IsHeadRead 49
unfolding digits types_on_literals with_offer with_value two_and_text cut_last parts_of item_value
head-50 n before last typed = record { entries = _; offer = _; is = refl; says = refl }

pub head-51 : IsHeadRead 50
unfolding digits types_on_literals with_offer with_value two_and_text cut_last parts_of item_value
head-51 n before last typed = record { entries = _; offer = _; is = refl; says = refl }

pub head-52 : IsHeadRead 51
unfolding digits types_on_literals with_offer with_value two_and_text cut_last parts_of item_value
head-52 n before last typed = record { entries = _; offer = _; is = refl; says = refl }

pub head-53 : IsHeadRead 52
unfolding digits types_on_literals with_offer with_value two_and_text cut_last parts_of item_value
head-53 n before last typed = record { entries = _; offer = _; is = refl; says = refl }

pub head-54 : IsHeadRead 53
unfolding digits types_on_literals with_offer with_value two_and_text cut_last parts_of item_value
head-54 n before last typed = record { entries = _; offer = _; is = refl; says = refl }

pub head-55 : IsHeadRead 54
unfolding digits types_on_literals with_offer with_value two_and_text cut_last parts_of item_value
head-55 n before last typed = record { entries = _; offer = _; is = refl; says = refl }

pub head-56 : IsHeadRead 55
unfolding digits types_on_literals with_offer with_value two_and_text cut_last parts_of item_value
head-56 n before last typed = record { entries = _; offer = _; is = refl; says = refl }

pub head-57 : IsHeadRead 56
unfolding digits types_on_literals with_offer with_value two_and_text cut_last parts_of item_value
head-57 n before last typed = record { entries = _; offer = _; is = refl; says = refl }

pub head-58 : IsHeadRead 57
unfolding digits types_on_literals with_offer with_value two_and_text cut_last parts_of item_value
head-58 n before last typed = record { entries = _; offer = _; is = refl; says = refl }

pub head-59 : IsHeadRead 58
unfolding digits types_on_literals with_offer with_value two_and_text cut_last parts_of item_value
head-59 n before last typed = record { entries = _; offer = _; is = refl; says = refl }

pub head-60 : IsHeadRead 59
unfolding digits types_on_literals with_offer with_value two_and_text cut_last parts_of item_value
head-60 n before last typed = record { entries = _; offer = _; is = refl; says = refl }

pub head-61 : IsHeadRead 60
unfolding digits types_on_literals with_offer with_value two_and_text cut_last parts_of item_value
head-61 n before last typed = record { entries = _; offer = _; is = refl; says = refl }

pub head-62 : IsHeadRead 61
unfolding digits types_on_literals with_offer with_value two_and_text cut_last parts_of item_value
head-62 n before last typed = record { entries = _; offer = _; is = refl; says = refl }

pub head-63 : IsHeadRead 62
unfolding digits types_on_literals with_offer with_value two_and_text cut_last parts_of item_value
head-63 n before last typed = record { entries = _; offer = _; is = refl; says = refl }

pub head-64 : IsHeadRead 63
unfolding digits types_on_literals with_offer with_value two_and_text cut_last parts_of item_value
head-64 n before last typed = record { entries = _; offer = _; is = refl; says = refl }

heads-8 : Upto 8 IsHeadRead
heads-8 = ((((((((tt, head-1), head-2), head-3), head-4), head-5), head-6), head-7), head-8)

heads-16 : Upto 16 IsHeadRead
heads-16 = ((((((((heads-8, head-9), head-10), head-11), head-12), head-13), head-14), head-15), head-16)

heads-24 : Upto 24 IsHeadRead
heads-24 = ((((((((heads-16, head-17), head-18), head-19), head-20), head-21), head-22), head-23), head-24)

heads-32 : Upto 32 IsHeadRead
heads-32 = ((((((((heads-24, head-25), head-26), head-27), head-28), head-29), head-30), head-31), head-32)

heads-40 : Upto 40 IsHeadRead
heads-40 = ((((((((heads-32, head-33), head-34), head-35), head-36), head-37), head-38), head-39), head-40)

heads-48 : Upto 48 IsHeadRead
heads-48 = ((((((((heads-40, head-41), head-42), head-43), head-44), head-45), head-46), head-47), head-48)

heads-56 : Upto 56 IsHeadRead
heads-56 = ((((((((heads-48, head-49), head-50), head-51), head-52), head-53), head-54), head-55), head-56)

pub all-heads : Upto 64 IsHeadRead
all-heads = ((((((((heads-56, head-57), head-58), head-59), head-60), head-61), head-62), head-63), head-64)
