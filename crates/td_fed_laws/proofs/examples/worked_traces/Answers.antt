use Rattle.std.proofs.Common.{◌≤◌, ℕ, [], ◌∷◌, refl, inl, inr, take, drop, true≢false, sym, arith}
use Rattle.td_cdr.specs.Marks.{In}
use Rattle.td_fed_laws.specs.Examples.{cycle}
use Rattle.td_fed_laws.specs.Traces.{HasSearch, IsSearchedInTrace}
use Rattle.td_fed_laws.proofs.examples.worked_traces.Goals as goal
use Rattle.td_walk.specs.declared.trace.TraceItem.TheVariants as item

-- another trader's search isn't there
not-there : (point mark : ℕ) → In (item.Search 1 point mark) (item.Search 0 0 1 ∷ []) → ⊥
not-there point mark (inl e) = cc
not-there point mark (inr h) = elim h [ ]

not-searched : (mark : ℕ) → HasSearch (item.Search 0 0 1 ∷ []) 1 mark → ⊥
not-searched mark h = not-there h.point mark h.there

searched : IsSearchedInTrace (item.Search 0 0 1 ∷ []) 0
searched = record { mark = 1; search = record { point = 0; there = inl refl } }

pub returns : goal.returns
returns c = record {
  first = refl;
  at_first = refl;
  at_second = refl;
  at_third = refl;
  at_repeat = refl;
  ended = refl;
  named = record { point = 0; there = inr (inl refl) };
  repeats = refl;
  refused = refl;
  far = λ h. let two : 2 ≤ 1 = h (take 3 cycle) (drop 4 cycle) 2 0 7 refl in omega (arith, two);
  not_once = λ h. h (item.Search 0 0 1 ∷ []) (item.Leave ∷ item.Leave ∷ []) 0 0 2 refl searched;
  not_a_search =
      λ h. let both = h (item.Search 0 0 1 ∷ []) (item.Leave ∷ item.Leave ∷ []) (item.Search 0 0 2) 0 refl refl in
      true≢false (sym (both.1 searched));
  not_named = λ h. not-searched 1 (h (item.Search 0 0 1 ∷ []) (item.Leave ∷ []) 1 0 1 refl);
  not_a_repeat =
      λ h. let both = h (item.Search 0 0 1 ∷ []) (item.Leave ∷ []) (item.Repeat 1 0 1) 1 refl refl in
      let found = both.0 refl in
      not-searched found.mark found.search;
}
