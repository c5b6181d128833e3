-- Sessions that are out.
use Rattle.std.proofs.Common.{◌≡◌, ℕ, ◌<◌, List, [], ◌∷◌, ◌++◌, length, slice_index_or, subst, sym}
use Rattle.std.proofs.Common.{Some}
use Rattle.std.proofs.lemmas.List.Elements.{All-nil, All-pop, All-push}
use Rattle.std.specs.List.{All, AllZip}
use Rattle.td_cell.specs.declared.book.Book.{Ghosts}
use Rattle.td_cell.specs.declared.pass.Pass.{Pass}
use Rattle.td_trader.specs.PlainTraders.{PlainTrader}
use Rattle.td_group.specs.Grouping.{IsOut, OutStays, SamePasses}
use Rattle.td_group.proofs.Passing.{still_out}

-- what holds of each of them
abbrev pub EachOf : {X : Type 0} → List X → (X → Type 0) → Type 0
EachOf xs P = All P xs

module _ {A R X : Type 0} {g : Ghosts PlainTrader A R} (f : X → List (Pass PlainTrader A R g))
    (ps : List (Pass PlainTrader A R g)) where
  pub none_out : (xs : List X) → xs ≡ [] → All (λ (x : X). AllZip IsOut ps (f x)) xs
  none_out xs e = subst (All (λ (x : X). AllZip IsOut ps (f x))) (sym e) (All-nil (λ (x : X). AllZip IsOut ps (f x)))

  pub each_stays : (qs : List (Pass PlainTrader A R g)) (xs : List X) → OutStays ps qs
      → All (λ (x : X). AllZip IsOut ps (f x)) xs → All (λ (x : X). AllZip IsOut qs (f x)) xs
  each_stays qs xs stays all = λ k d inside. stays (f (slice_index_or xs k d)) (all k d inside)

  -- one more
  pub each_more : (qs : List (Pass PlainTrader A R g)) (xs more : List X) (x : X) → OutStays ps qs
      → All (λ (y : X). AllZip IsOut ps (f y)) xs → AllZip IsOut qs (f x) → more ≡ xs ++ x ∷ []
      → All (λ (y : X). AllZip IsOut qs (f y)) more
  each_more qs xs more x stays all h e =
      subst (All (λ (y : X). AllZip IsOut qs (f y))) (sym e) (All-push (λ (y : X). AllZip IsOut qs (f y)) xs x
      (each_stays qs xs stays all) h)

  -- the last one is taken
  pub each_less : (xs ys : List X) (x : X) → xs ≡ ys ++ x ∷ [] → All (λ (y : X). AllZip IsOut ps (f y)) xs
      → All (λ (y : X). AllZip IsOut ps (f y)) ys × AllZip IsOut ps (f x)
  each_less xs ys x e all =
      let h = All-pop (λ (y : X). AllZip IsOut ps (f y)) xs ys (Some x) e all in
      (h.0, h.1)

  -- each has done its calls
  pub each_ended : (js rs : List X) → length rs ≡ length js → ((i : ℕ) (d : X) → i < length js
      → SamePasses (f (slice_index_or js i d)) (f (slice_index_or rs i d)))
      → All (λ (y : X). AllZip IsOut ps (f y)) js → All (λ (y : X). AllZip IsOut ps (f y)) rs
  each_ended js rs n same all = λ k d inside.
      let here : k < length js = subst (λ (m : ℕ). k < m) n inside in
      still_out ps (f (slice_index_or js k d)) (f (slice_index_or rs k d)) (same k d here) (all k d here)
