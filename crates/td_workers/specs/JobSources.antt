-- Jobs that are done for a job source, many at a time.
use Rattle.std.specs.Prelude.{◌≡◌, ℕ, ◌+◌, ◌<◌, Bool, true, false, List, [], ◌∷◌, ◌++◌, length}

-- P holds of each of these jobs
abbrev pub OfEach : {J : Type 0} → (J → Type 0) → List (ℕ × J) → Type 0
OfEach P [] = Unit {0}
OfEach P (x ∷ xs) = P x.1 × OfEach P xs

-- What happens in a job source to its end: so many jobs were numbered before, and these are out, each with its number.
-- In the end every job that came was done once, and what was made of it was taken back under its number. Here tells
-- whether the thread that takes the jobs in did it: what that one did was the last that had come, so none was taken in
-- meanwhile; what another thread did was one of the first 64 of those that were out.
pub data RunsJobs {H J D : Type 0} (admits : H → ℕ → J → H → Type 0) (closes : H → H → Type 0)
    (does : J → D → Type 0) (here : D → Bool) (parts : H → ℕ → D → H → Type 0)
    : (more : Bool) → H → ℕ → List (ℕ × J) → H → Type 0 where
  -- a job has come, with the next number
  came : {h m k : H} {n : ℕ} {out : List (ℕ × J)} {job : J} → admits h (n + 1) job m
      → RunsJobs admits closes does here parts true m (n + 1) (out ++ (n + 1, job) ∷ []) k
      → RunsJobs admits closes does here parts true h n out k
  -- no more will come
  closed : {h m k : H} {n : ℕ} {out : List (ℕ × J)} → closes h m
      → RunsJobs admits closes does here parts false m n out k
      → RunsJobs admits closes does here parts true h n out k
  -- one that was out was done
  went : {more : Bool} {h m k : H} {n : ℕ} (before after : List (ℕ × J)) {number : ℕ} {job : J}
      {made : D}
      → does job made → (here made ≡ false → length before < 64) → (here made ≡ true → after ≡ [])
      → parts h number made m → RunsJobs admits closes does here parts more m n (before ++ after) k
      → RunsJobs admits closes does here parts more h n (before ++ (number, job) ∷ after) k
  -- all were done
  over : {h : H} {n : ℕ} → RunsJobs admits closes does here parts false h n [] h

-- a job was done by a thread of its own, and what was made of it taken back
pub record ReturnsResult {H J D : Type 0} (Ready : H → Type 0) (Waits : H → J → Type 0)
    (does : J → D → Type 0) (here : D → Bool) (parts : H → ℕ → D → H → Type 0) (h : H) (number : ℕ)
    (job : J) (u : H) : Type 0 where
  pub made : D
  pub is_made : does job made
  pub elsewhere : here made ≡ false
  pub taken : parts h number made u
  pub ready : Ready u
  pub stays : (j : J) → Waits h j → Waits u j

-- The job source has gone on from h, where these jobs were out, to u, where the others are: what happens from there on
-- happens from h on.
pub record SourceMoves {H J D : Type 0} (Ready : H → Type 0) (Waits : H → J → Type 0)
    (admits : H → ℕ → J → H → Type 0) (closes : H → H → Type 0) (does : J → D → Type 0)
    (here : D → Bool) (parts : H → ℕ → D → H → Type 0) (h : H) (out : List (ℕ × J)) (u : H)
    (left : List (ℕ × J)) : Type 0 where
  pub ready : Ready u
  pub stays : (j : J) → Waits h j → Waits u j
  pub waits : OfEach (Waits u) left
  pub leads : (more : Bool) (n : ℕ) (k : H) (others : List (ℕ × J))
      → RunsJobs admits closes does here parts more u n (left ++ others) k
      → RunsJobs admits closes does here parts more h n (out ++ others) k

-- The same, where nothing has come behind the last of those that were out.
pub record AssignsJob {H J D : Type 0} (Ready : H → Type 0) (Waits : H → J → Type 0)
    (admits : H → ℕ → J → H → Type 0) (closes : H → H → Type 0) (does : J → D → Type 0)
    (here : D → Bool) (parts : H → ℕ → D → H → Type 0) (h : H) (out : List (ℕ × J)) (u : H)
    (left : List (ℕ × J)) : Type 0 where
  pub ready : Ready u
  pub waits : OfEach (Waits u) left
  pub leads : (more : Bool) (n : ℕ) (k : H) → RunsJobs admits closes does here parts more u n left k
      → RunsJobs admits closes does here parts more h n out k

-- No more jobs will come, and the same ones are out.
pub record ClosesSource {H J : Type 0} (Ready : H → Type 0) (Waits : H → J → Type 0)
    (closes : H → H → Type 0) (h u : H) (out left : List (ℕ × J)) : Type 0 where
  pub is_closed : closes h u
  pub ready : Ready u
  pub same : left ≡ out
  pub waits : OfEach (Waits u) left

-- One more job has come, and has its place among those that are out, or was done.
pub record AcceptsJob {H J D : Type 0} (Ready : H → Type 0) (Waits : H → J → Type 0)
    (admits : H → ℕ → J → H → Type 0) (closes : H → H → Type 0) (does : J → D → Type 0)
    (here : D → Bool) (parts : H → ℕ → D → H → Type 0) (h : H) (number : ℕ) (out : List (ℕ × J))
    (u : H) (left : List (ℕ × J)) : Type 0 where
  pub between : H
  pub job : J
  pub came_in : admits h number job between
  pub placed : AssignsJob Ready Waits admits closes does here parts between (out ++ (number, job)
      ∷ [])
      u left
