-- A job source that goes on, and the jobs that are out.
use Rattle.std.proofs.Common.{◌≡◌, ℕ, zero, suc, ◌+◌, ◌<◌, Bool, true, false, List, [], ◌∷◌, ◌++◌, length, map, take}
use Rattle.std.proofs.Common.{drop, remove, slice_index_or, sym, ap, subst, ◌∙◌, append_assoc, append-nil, arith}
use Rattle.std.proofs.Common.{Result, Ok, Err, OnOk, refl}
use Rattle.std.proofs.lemmas.Bool.{true≢false}
use Rattle.std.proofs.lemmas.List.{length-map, length-take-le, map-append}
use Rattle.td_workers.specs.JobSources.{ClosesSource, SourceMoves, OfEach, ReturnsResult, AssignsJob, AcceptsJob}
use Rattle.td_workers.specs.JobSources.{RunsJobs}
use Rattle.td_workers.specs.JobSources.{came, closed, over, went}

-- ---- each of some jobs

each_append : {J : Type 0} (P : J → Type 0) (xs ys : List (ℕ × J)) → OfEach P xs → OfEach P ys → OfEach P (xs ++ ys)
each_append P [] ys p q = q
each_append P (x ∷ xs) ys p q = (p.0, each_append P xs ys p.1 q)

pub each_on : {J : Type 0} (P Q : J → Type 0) (xs : List (ℕ × J)) → ((j : J) → P j → Q j) → OfEach P xs → OfEach Q xs
each_on P Q [] f p = tt
each_on P Q (x ∷ xs) f p = (f x.1 p.0, each_on P Q xs f p.1)

each_without : {J : Type 0} (P : J → Type 0) (before after : List (ℕ × J)) (x : ℕ × J)
    → OfEach P (before ++ x ∷ after) → OfEach P (before ++ after)
each_without P [] after x p = p.1
each_without P (y ∷ before) after x p = (p.0, each_without P before after x p.1)

pub each_at : {W J : Type 0} (f : W → ℕ × J) (P : J → Type 0) (xs : List W) (i : ℕ) (w : W) → OfEach P (map f xs)
    → i < length xs → w ≡ slice_index_or xs i w → P (f w).1
each_at f P [] i w p h e = absurd (omega arith)
each_at f P (x ∷ xs) zero w p h e = subst (λ y. P (f y).1) (sym e) p.0
each_at f P (x ∷ xs) (suc i) w p h e = each_at f P xs i w p.1 (omega arith) e

cut_at : {W : Type 0} (xs : List W) (i : ℕ) (w : W) → i < length xs → w ≡ slice_index_or xs i w
    → xs ≡ take i xs ++ w ∷ drop (suc i) xs
cut_at [] i w h e = absurd (omega arith)
cut_at (x ∷ xs) zero w h e = ap (λ y. y ∷ xs) (sym e)
cut_at (x ∷ xs) (suc i) w h e = ap (λ ys. x ∷ ys) (cut_at xs i w (omega arith) e)

short : {W V : Type 0} (f : W → V) (xs : List W) (i : ℕ) → i < length xs → i < 64 → length (map f (take i xs)) < 64
short f xs i within few =
    subst (λ n. n < 64) (sym (length-map (take i xs) f ∙ length-take-le i xs (omega (arith, within)))) few

-- ---- steps

module _ {H J D : Type 0} (Ready : H → Type 0) (Waits : H → J → Type 0) (admits : H → ℕ → J → H → Type 0)
    (closes : H → H → Type 0) (does : J → D → Type 0) (here : D → Bool) (parts : H → ℕ → D → H → Type 0) where
  abbrev Goes : H → List (ℕ × J) → H → List (ℕ × J) → Type 0
  Goes h out u left = SourceMoves Ready Waits admits closes does here parts h out u left

  abbrev Runs : Bool → H → ℕ → List (ℕ × J) → H → Type 0
  Runs more h n out k = RunsJobs admits closes does here parts more h n out k

  abbrev Stays : H → List (ℕ × J) → H → List (ℕ × J) → Type 0
  Stays h out u left = AssignsJob Ready Waits admits closes does here parts h out u left

  pub moves_itself : (h : H) (out : List (ℕ × J)) → Ready h → OfEach (Waits h) out → Goes h out h out
  moves_itself h out r w = record { ready = r; stays = λ j x. x; waits = w; leads = λ more n k others x. x }

  pub moves_on : (h u v : H) (a b c : List (ℕ × J)) → Goes h a u b → Goes u b v c → Goes h a v c
  moves_on h u v a b c p q = record {
    ready = q.ready;
    stays = λ j x. q.stays j (p.stays j x);
    waits = q.waits;
    leads = λ more n k others x. p.leads more n k others (q.leads more n k others x);
  }

  -- one of the jobs was done
  pub moves_parted : (h u : H) (before after : List (ℕ × J)) (number : ℕ) (job : J)
      → length before < 64 → OfEach (Waits h) (before ++ (number, job) ∷ after)
      → ReturnsResult Ready Waits does here parts h number job u
      → Goes h (before ++ (number, job) ∷ after) u (before ++ after)
  moves_parted h u before after number job few w p = record {
    ready = p.ready;
    stays = p.stays;
    waits =
        each_on (Waits h) (Waits u) (before ++ after) p.stays
        (each_without (Waits h) before after (number, job) w);
    leads = λ more n k others x.
        subst (λ (l : List (ℕ × J)). Runs more h n l k) (sym (append_assoc before ((number, job) ∷ after) others))
        (went before (after ++ others) p.is_made (λ e. few) (λ e. absurd (true≢false (sym e ∙ p.elsewhere))) p.taken
        (subst (λ (l : List (ℕ × J)). Runs more u n l k) (append_assoc before after others) x));
  }

  -- the last of the jobs was done
  pub placed_last : (h u : H) (out : List (ℕ × J)) (number : ℕ) (job : J) (made : D)
      → (here made ≡ false → length out < 64) → OfEach (Waits h) out → does job made → Ready u
      → ((j : J) → Waits h j → Waits u j) → parts h number made u → Stays h (out ++ (number, job) ∷ []) u out
  placed_last h u out number job made few w d a b p = record {
    ready = a;
    waits = each_on (Waits h) (Waits u) out b w;
    leads = λ more n k x.
        went out [] d few (λ e. refl) p (subst (λ (l : List (ℕ × J)). Runs more u n l k) (sym (append-nil out)) x);
  }

  -- one of the workers is gone
  pub moves_removed : {W : Type 0} (f : W → ℕ × J) (h u : H) (xs ys : List W) (i : ℕ) (w : W) → i < length xs
      → i < 64 → w ≡ slice_index_or xs i w → ys ≡ remove xs i → OfEach (Waits h) (map f xs)
      → ReturnsResult Ready Waits does here parts h (f w).0 (f w).1 u → Goes h (map f xs) u (map f ys)
  moves_removed f h u xs ys i w b few e r o p =
      let all : map f xs ≡ map f (take i xs) ++ f w ∷ map f (drop (suc i) xs) =
      ap (map f) (cut_at xs i w b e) ∙ map-append f (take i xs) (w ∷ drop (suc i) xs) in
      let left : map f ys ≡ map f (take i xs) ++ map f (drop (suc i) xs) =
      ap (map f) r ∙ map-append f (take i xs) (drop (suc i) xs) in
      let moved : Goes h (map f (take i xs) ++ f w ∷ map f (drop (suc i) xs)) u
      (map f (take i xs) ++ map f (drop (suc i) xs)) =
      moves_parted h u (map f (take i xs)) (map f (drop (suc i) xs)) (f w).0 (f w).1 (short f xs i b few)
      (subst (OfEach (Waits h)) all o) p in
      subst (λ (l : List (ℕ × J)). Goes h (map f xs) u l) (sym left)
      (subst (λ (l : List (ℕ × J)). Goes h l u (map f (take i xs) ++ map f (drop (suc i) xs))) (sym all) moved)

  -- the same, where it was taken back
  pub removed_if_ok : {W T E : Type 0} (f : W → ℕ × J) (h u : H) (xs ys : List W) (i : ℕ) (w : W) (r : Result T E)
      → i < length xs → i < 64 → w ≡ slice_index_or xs i w → ys ≡ remove xs i → OfEach (Waits h) (map f xs)
      → OnOk r (ReturnsResult Ready Waits does here parts h (f w).0 (f w).1 u) → OnOk r (Goes h (map f xs) u (map f ys))
  removed_if_ok f h u xs ys i w (Ok x) b few e r o p = moves_removed f h u xs ys i w b few e r o p
  removed_if_ok f h u xs ys i w (Err x) b few e r o p = tt

  -- one job more was done at once
  pub done_here : {W T E : Type 0} (f : W → ℕ × J) (h u : H) (xs ys : List W) (number : ℕ) (job : J) (made : D)
      (r : Result T E) → ys ≡ xs → (here made ≡ false → length xs < 64) → OfEach (Waits h) (map f xs) → does job made
      → OnOk r (Ready u) → OnOk r ((j : J) → Waits h j → Waits u j) → OnOk r (parts h number made u)
      → OnOk r (Stays h (map f xs ++ (number, job) ∷ []) u (map f ys))
  done_here {W} f h u xs ys number job made (Ok x) e few o d a b p =
      subst (λ (l : List W). Stays h (map f xs ++ (number, job) ∷ []) u (map f l)) (sym e)
      (placed_last h u (map f xs) number job made (λ z. subst (λ n. n < 64) (sym (length-map xs f)) (few z)) o d a b p)
  done_here f h u xs ys number job made (Err x) e few o d a b p = tt

  -- one worker more was started
  pub placed_started : {W : Type 0} (f : W → ℕ × J) (h : H) (xs mid ys : List W) (w : W) (number : ℕ) (job : J)
      → mid ≡ xs → ys ≡ mid ++ w ∷ [] → (f w).0 ≡ number → (f w).1 ≡ job → Ready h → OfEach (Waits h) (map f xs)
      → Waits h job → Stays h (map f xs ++ (number, job) ∷ []) h (map f ys)
  placed_started {W} f h xs mid ys w number job m e is_number is_job r o x =
      let is : f w ≡ (number, job) =
      ap (λ (n : ℕ). (n, (f w).1)) is_number ∙ ap (λ (j : J). (number, j)) is_job in
      let all : ys ≡ xs ++ w ∷ [] = e ∙ ap (λ (l : List W). l ++ w ∷ []) m in
      let left : map f ys ≡ map f xs ++ (number, job) ∷ [] =
      ap (map f) all ∙ map-append f xs (w ∷ []) ∙ ap (λ (y : ℕ × J). map f xs ++ y ∷ []) is in
      subst (λ (l : List (ℕ × J)). Stays h (map f xs ++ (number, job) ∷ []) h l) (sym left)
      (record {
        ready = r;
        waits = each_append (Waits h) (map f xs) ((number, job) ∷ []) o (x, tt);
        leads = λ more n k y. y;
      })

  -- one job more, beside those that moved
  pub assigned : {T E : Type 0} (h u v : H) (a b c : List (ℕ × J)) (number : ℕ) (job : J) (r : Result T E) → Goes h a u b
      → Waits h job → OnOk r (Stays u (b ++ (number, job) ∷ []) v c) → OnOk r (Stays h (a ++ (number, job) ∷ []) v c)
  assigned h u v a b c number job (Ok x) p w q = record {
    ready = q.ready;
    waits = q.waits;
    leads = λ more n k y. p.leads more n k ((number, job) ∷ []) (q.leads more n k y);
  }
  assigned h u v a b c number job (Err x) p w q = tt

  -- ---- jobs that come

  -- on the way from the beginning: so many were numbered, and these are out
  pub record Stands (begin : H) (h : H) (n : ℕ) (out : List (ℕ × J)) : Type 0 where
    pub ready : Ready h
    pub waits : OfEach (Waits h) out
    pub leads : (k : H) → Runs true h n out k → Runs true begin 0 [] k

  pub stands_first : (h : H) → Ready h → Stands h h 0 []
  stands_first h r = record { ready = r; waits = tt; leads = λ k x. x }

  pub accepts_job : (h m u : H) (number : ℕ) (job : J) (out left : List (ℕ × J)) → admits h number job m
      → Stays m (out ++ (number, job) ∷ []) u left
      → AcceptsJob Ready Waits admits closes does here parts h number out u left
  accepts_job h m u number job out left a g = record { between = m; job = job; came_in = a; placed = g }

  -- one more has come, and found its place
  pub stands_next : (begin h u : H) (n : ℕ) (number : ℕ) (out left : List (ℕ × J)) → Stands begin h n out
      → number ≡ n + 1 → AcceptsJob Ready Waits admits closes does here parts h number out u left → Stands begin u (n + 1) left
  stands_next begin h u n number out left s e v =
      let m : H = v.between in
      let job : J = v.job in
      let g : Stays m (out ++ (number, job) ∷ []) u left = v.placed in
      record {
        ready = g.ready;
        waits = g.waits;
        leads = λ k x.
            let plain : Runs true m (n + 1) (out ++ (number, job) ∷ []) k = g.leads true (n + 1) k x in
            s.leads k (came (subst (λ (i : ℕ). admits h i job m) e v.came_in)
            (subst (λ (i : ℕ). Runs true m (n + 1) (out ++ (i, job) ∷ []) k) e plain));
      }

  -- no more come, and all were done
  pub stands_over : {T E : Type 0} (begin h m u : H) (n : ℕ) (out left : List (ℕ × J)) (r : Result T E)
      → Stands begin h n out → ClosesSource Ready Waits closes h m out left → OnOk r (Goes m left u [])
      → OnOk r (Runs true begin 0 [] u)
  stands_over begin h m u n out left (Ok x) s c g =
      let all : Runs false m n (left ++ []) u = g.leads false n u [] over in
      s.leads u (closed c.is_closed (subst (λ (l : List (ℕ × J)). Runs false m n l u) c.same
      (subst (λ (l : List (ℕ × J)). Runs false m n l u) (append-nil left) all)))
  stands_over begin h m u n out left (Err x) s c g = tt

  pub ready_over : {T E : Type 0} (m u : H) (left : List (ℕ × J)) (r : Result T E) → OnOk r (Goes m left u [])
      → OnOk r (Ready u)
  ready_over m u left (Ok x) g = g.ready
  ready_over m u left (Err x) g = tt
