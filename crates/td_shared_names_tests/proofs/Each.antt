-- Sessions that are out.
use Rattle.std.proofs.Common.{◌≡◌, ℕ, ◌<◌, List, [], ◌∷◌, ◌++◌, length, slice_index_or, Some, subst, sym}
use Rattle.std.proofs.lemmas.List.Elements.{All-nil, All-pop, All-push}
use Rattle.std.specs.List.{All}
use Rattle.td_cell.specs.declared.book.Book.{Ghosts}
use Rattle.td_cell.specs.declared.pass.Pass.{Pass}
use Rattle.td_naming.specs.Histories.{Past}
use Rattle.td_shared_names.specs.Sharing.{IsOut, OutStays, SamePass}
use Rattle.td_shared_names.proofs.Passing.{still_out}

-- what holds of each of them
abbrev pub EachOf : {X : Type 0} → List X → (X → Type 0) → Type 0
EachOf xs P = All P xs

module _ {A R X : Type 0} {g : Ghosts Past A R} (f : X → Pass Past A R g) (p : Pass Past A R g) where
  pub none_out : (xs : List X) → xs ≡ [] → All (λ (x : X). IsOut p (f x)) xs
  none_out xs e = subst (All (λ (x : X). IsOut p (f x))) (sym e) (All-nil (λ (x : X). IsOut p (f x)))

  pub each_stays : (q : Pass Past A R g) (xs : List X) → OutStays p q → All (λ (x : X). IsOut p (f x)) xs
      → All (λ (x : X). IsOut q (f x)) xs
  each_stays q xs stays all = λ k d inside. stays (f (slice_index_or xs k d)) (all k d inside)

  -- one more
  pub each_more : (q : Pass Past A R g) (xs more : List X) (x : X) → OutStays p q → All (λ (y : X). IsOut p (f y)) xs
      → IsOut q (f x) → more ≡ xs ++ x ∷ [] → All (λ (y : X). IsOut q (f y)) more
  each_more q xs more x stays all h e =
      subst (All (λ (y : X). IsOut q (f y))) (sym e)
      (All-push (λ (y : X). IsOut q (f y)) xs x (each_stays q xs stays all) h)

  -- the last one is taken
  pub each_less : (xs ys : List X) (x : X) → xs ≡ ys ++ x ∷ [] → All (λ (y : X). IsOut p (f y)) xs
      → All (λ (y : X). IsOut p (f y)) ys × IsOut p (f x)
  each_less xs ys x e all =
      let h = All-pop (λ (y : X). IsOut p (f y)) xs ys (Some x) e all in
      (h.0, h.1)

  -- each has made its calls
  pub each_ended : (js rs : List X) → length rs ≡ length js
      → ((i : ℕ) (d : X) → i < length js → SamePass (f (slice_index_or js i d)) (f (slice_index_or rs i d)))
      → All (λ (y : X). IsOut p (f y)) js → All (λ (y : X). IsOut p (f y)) rs
  each_ended js rs n same all = λ k d inside.
      let here : k < length js = subst (λ (m : ℕ). k < m) n inside in
      still_out p (f (slice_index_or js k d)) (f (slice_index_or rs k d)) (same k d here) (all k d here)
