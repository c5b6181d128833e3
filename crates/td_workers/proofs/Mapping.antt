-- What happens in a job source, told in other words.
use Rattle.std.proofs.Common.{◌≡◌, ℕ, ◌<◌, Bool, List, [], ◌∷◌, ◌++◌, map, true, sym, ap, subst, ◌∙◌}
use Rattle.std.proofs.lemmas.List.{length-map, map-append}
use Rattle.td_workers.specs.JobSources.{RunsJobs, came, closed, over, went}

module _ {H J D : Type 0} {admits : H → ℕ → J → H → Type 0} {closes : H → H → Type 0} {does : J → D → Type 0}
    {here : D → Bool} {parts : H → ℕ → D → H → Type 0} {K B E : Type 0} (admits2 : K → ℕ → B → K → Type 0)
    (closes2 : K → K → Type 0) (does2 : B → E → Type 0) (here2 : E → Bool) (parts2 : K → ℕ → E → K → Type 0) (job_source : H → K) (begun : J → B)
    (made_as : D → E)
    (admitted : (h : H) (n : ℕ) (j : J) (m : H) → admits h n j m → admits2 (job_source h) n (begun j) (job_source m))
    (is_closed : (h m : H) → closes h m → closes2 (job_source h) (job_source m))
    (done_so : (j : J) (d : D) → does j d → does2 (begun j) (made_as d)) (as_here : (d : D) → here2 (made_as d) ≡ here d)
    (parted : (h : H) (n : ℕ) (d : D) (m : H) → parts h n d m → parts2 (job_source h) n (made_as d) (job_source m)) where
  abbrev content : ℕ × J → ℕ × B
  content x = (x.0, begun x.1)

  moved : {more : Bool} {h k : K} {n : ℕ} (a b : List (ℕ × B)) → a ≡ b
      → RunsJobs admits2 closes2 does2 here2 parts2 more h n a k → RunsJobs admits2 closes2 does2 here2 parts2 more h n b k
  moved {more} {h} {k} {n} a b e w =
      subst (λ (l : List (ℕ × B)). RunsJobs admits2 closes2 does2 here2 parts2 more h n l k) e w

  maps_from : {more : Bool} {h k : H} {n : ℕ} {out : List (ℕ × J)} → RunsJobs admits closes does here parts more h n out k
      → RunsJobs admits2 closes2 does2 here2 parts2 more (job_source h) n (map content out) (job_source k)
  maps_from (came {out = out} {job = job} a w) =
      came (admitted _ _ _ _ a) (moved _ _ (map-append content out ((_, job) ∷ [])) (maps_from w))
  maps_from (closed c w) = closed (is_closed _ _ c) (maps_from w)
  maps_from (went before after {number = number} {job = job} {made = made} d few last p w) =
      moved (map content before ++ (number, begun job) ∷ map content after) _
      (sym (map-append content before ((number, job) ∷ after)))
      (went (map content before) (map content after) (done_so _ _ d)
      (λ e. subst (λ n. n < 64) (sym (length-map before content)) (few (sym (as_here made) ∙ e)))
      (λ e. ap (map content) (last (sym (as_here made) ∙ e))) (parted _ _ _ _ p)
      (moved _ _ (map-append content before after) (maps_from w)))
  maps_from over = over

-- the same from the beginning on
pub working_maps : {H J D : Type 0} {admits : H → ℕ → J → H → Type 0} {closes : H → H → Type 0} {does : J → D → Type 0}
    {here : D → Bool} {parts : H → ℕ → D → H → Type 0} {h k : H} {n : ℕ} {K B E : Type 0}
    (w : RunsJobs admits closes does here parts true h n [] k) (admits2 : K → ℕ → B → K → Type 0)
    (closes2 : K → K → Type 0) (does2 : B → E → Type 0) (here2 : E → Bool) (parts2 : K → ℕ → E → K → Type 0) (job_source : H → K) (begun : J → B)
    (made_as : D → E)
    (admitted : (h : H) (n : ℕ) (j : J) (m : H) → admits h n j m → admits2 (job_source h) n (begun j) (job_source m))
    (is_closed : (h m : H) → closes h m → closes2 (job_source h) (job_source m))
    (done_so : (j : J) (d : D) → does j d → does2 (begun j) (made_as d)) (as_here : (d : D) → here2 (made_as d) ≡ here d)
    (parted : (h : H) (n : ℕ) (d : D) (m : H) → parts h n d m → parts2 (job_source h) n (made_as d) (job_source m))
    → RunsJobs admits2 closes2 does2 here2 parts2 true (job_source h) n [] (job_source k)
working_maps w admits2 closes2 does2 here2 parts2 job_source begun made_as a c d e p =
    maps_from admits2 closes2 does2 here2 parts2 job_source begun made_as a c d e p w
