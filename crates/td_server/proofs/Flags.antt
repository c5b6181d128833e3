-- Passes that were given to sessions are taken back: of each, whether it was.
use Rattle.std.proofs.Common.{◌≡◌, ◌⊎◌, inl, inr, ℕ, zero, suc, ◌+◌, ◌-◌, Bool, true, false, List, [], ◌∷◌}
use Rattle.std.proofs.Common.{◌++◌, length, slice_set, true≢false, refl, sym, ap, subst, ◌∙◌, arith}
use Rattle.td_server.specs.Rows.{Rows}
use Rattle.td_workers.specs.JobSources.{RunsJobs, came, closed, over, went}

-- ---- the flags of one opening pass: for each pass that was split off it, whether it was met

-- the pass at this place wasn't met
abbrev pub Waits : List Bool → ℕ → Type 0
Waits [] j = ⊥
Waits (b ∷ ms) zero = b ≡ false
Waits (b ∷ ms) (suc j) = Waits ms j

waits-more : (ms : List Bool) (j : ℕ) → Waits (ms ++ false ∷ []) j → Waits ms j ⊎ (length ms ≡ j)
waits-more [] zero w = inr refl
waits-more [] (suc j) w = absurd w
waits-more (b ∷ ms) zero w = inl w
waits-more (b ∷ ms) (suc j) w =
    elim (waits-more ms j w) as (λ _. Waits ms j ⊎ (suc (length ms) ≡ suc j)) [ inl p ↦ inl p | inr e ↦ inr (ap suc e) ]

waits-less : (ms : List Bool) (i j : ℕ) → Waits (slice_set ms i true) j → Waits ms j
waits-less [] i j w = w
waits-less (b ∷ ms) zero zero w = absurd (true≢false w)
waits-less (b ∷ ms) zero (suc j) w = w
waits-less (b ∷ ms) (suc i) zero w = w
waits-less (b ∷ ms) (suc i) (suc j) w = waits-less ms i j w

met-here : (ms : List Bool) (i : ℕ) → Waits (slice_set ms i true) i → ⊥
met-here [] i w = w
met-here (b ∷ ms) zero w = absurd (true≢false w)
met-here (b ∷ ms) (suc i) w = met-here ms i w

-- ---- the flags of all opening passes, and the numbers of a session's passes

-- those of one trader; none beyond the last
abbrev pub flags_at : List (List Bool) → ℕ → List Bool
flags_at [] k = []
flags_at (ms ∷ flags) zero = ms
flags_at (ms ∷ flags) (suc k) = flags_at flags k

abbrev number_at : List ℕ → ℕ → ℕ
number_at [] k = 0
number_at (n ∷ ns) zero = n
number_at (n ∷ ns) (suc k) = number_at ns k

-- one more was split off
pub record Split (before : List Bool) (number : ℕ) (after : List Bool) : Type 0 where
  pub flags : after ≡ before ++ false ∷ []
  pub number_is : number ≡ length before + 1

-- it was met
abbrev pub Met : List Bool → ℕ → List Bool → Type 0
Met before number after = after ≡ slice_set before (number - 1) true

-- R holds of one trader's flags, where there is one
abbrev Holds : (List Bool → ℕ → List Bool → Type 0) → List Bool → ℕ → List Bool → Type 0
Holds R before number after = (after ≡ []) ⊎ R before number after

row_at : (R : List Bool → ℕ → List Bool → Type 0) (a : List (List Bool)) (ns : List ℕ) (b : List (List Bool)) (k : ℕ)
    → Rows R a ns b → Holds R (flags_at a k) (number_at ns k) (flags_at b k)
row_at R [] [] [] k r = inl refl
row_at R [] [] (y ∷ b) k r = absurd r
row_at R [] (n ∷ ns) b k r = absurd r
row_at R (x ∷ a) [] b k r = absurd r
row_at R (x ∷ a) (n ∷ ns) [] k r = absurd r
row_at R (x ∷ a) (n ∷ ns) (y ∷ b) zero r = inr r.0
row_at R (x ∷ a) (n ∷ ns) (y ∷ b) (suc k) r = row_at R a ns b k r.1

-- ---- the sessions that go on

-- one of them has the pass that was split off at this place of trader k
abbrev pub IsOut : (k j : ℕ) → List (ℕ × List ℕ) → Type 0
IsOut k j [] = ⊥
IsOut k j (x ∷ out) = (number_at x.1 k ≡ j + 1) ⊎ IsOut k j out

out-last : (k j : ℕ) (out : List (ℕ × List ℕ)) (x : ℕ × List ℕ) → IsOut k j out ⊎ (number_at x.1 k ≡ j + 1)
    → IsOut k j (out ++ x ∷ [])
out-last k j [] x (inl f) = absurd f
out-last k j [] x (inr e) = inl e
out-last k j (y ∷ out) x (inl (inl e)) = inl e
out-last k j (y ∷ out) x (inl (inr h)) = inr (out-last k j out x (inl h))
out-last k j (y ∷ out) x (inr e) = inr (out-last k j out x (inr e))

out-other : (k j : ℕ) (before after : List (ℕ × List ℕ)) (x : ℕ × List ℕ) → IsOut k j (before ++ x ∷ after)
    → IsOut k j (before ++ after) ⊎ (number_at x.1 k ≡ j + 1)
out-other k j [] after x (inl e) = inr e
out-other k j [] after x (inr h) = inl h
out-other k j (y ∷ before) after x (inl e) = inl (inl e)
out-other k j (y ∷ before) after x (inr h) =
    elim (out-other k j before after x h) as (λ _. IsOut k j (y ∷ (before ++ after)) ⊎ (number_at x.1 k ≡ j + 1))
    [ inl p ↦ inl (inr p) | inr e ↦ inr e ]

-- each pass that wasn't met is that of a session that goes on
abbrev pub AreOut : List (List Bool) → List (ℕ × List ℕ) → Type 0
AreOut flags out = (k j : ℕ) → Waits (flags_at flags k) j → IsOut k j out

out_more : (before after : List Bool) (number k j : ℕ) (out : List (ℕ × List ℕ)) (x : ℕ × List ℕ)
    → number_at x.1 k ≡ number → Holds Split before number after → (Waits before j → IsOut k j out)
    → Waits after j → IsOut k j (out ++ x ∷ [])
out_more before after number k j out x is (inl none) f w = absurd (subst (λ (ms : List Bool). Waits ms j) none w)
out_more before after number k j out x is (inr s) f w =
    elim (waits-more before j (subst (λ (ms : List Bool). Waits ms j) s.flags w)) as (λ _. IsOut k j (out ++ x ∷ [])) [
      | inl p ↦ out-last k j out x (inl (f p))
      | inr e ↦ out-last k j out x (inr (is ∙ s.number_is ∙ ap (λ (n : ℕ). n + 1) e))
    ]

out_less : (before after : List Bool) (number k j : ℕ) (front back : List (ℕ × List ℕ)) (x : ℕ × List ℕ)
    → number_at x.1 k ≡ number → Holds Met before number after
    → (Waits before j → IsOut k j (front ++ x ∷ back)) → Waits after j → IsOut k j (front ++ back)
out_less before after number k j front back x is (inl none) f w =
    absurd (subst (λ (ms : List Bool). Waits ms j) none w)
out_less before after number k j front back x is (inr m) f w =
    let left : Waits (slice_set before (number - 1) true) j = subst (λ (ms : List Bool). Waits ms j) m w in
    elim (out-other k j front back x (f (waits-less before (number - 1) j left))) as (λ _. IsOut k j (front ++ back)) [
      | inl h ↦ h
      | inr e ↦ absurd (met-here before j (subst (λ (i : ℕ). Waits (slice_set before i true) j)
          (ap (λ (n : ℕ). n - 1) (sym is ∙ e) ∙ (let z : j + 1 - 1 ≡ j = omega arith in z)) left))
    ]

-- ---- all sessions

abbrev pub Splits : List (List Bool) → ℕ → List ℕ → List (List Bool) → Type 0
Splits a number ns b = Rows Split a ns b

abbrev pub Stays : List (List Bool) → List (List Bool) → Type 0
Stays a b = b ≡ a

-- what was made of a session has its passes still; where it was made isn't looked at
abbrev pub Keeps : List ℕ → List ℕ × Bool → Type 0
Keeps ns made = ns ≡ made.0

abbrev pub place_of : List ℕ × Bool → Bool
place_of made = made.1

abbrev pub Meet : List (List Bool) → ℕ → List ℕ × Bool → List (List Bool) → Type 0
Meet a number made b = Rows Met a made.0 b

pub none-left : {more : Bool} {a b : List (List Bool)} {n : ℕ} {out : List (ℕ × List ℕ)}
    → RunsJobs Splits Stays Keeps place_of Meet more a n out b → AreOut a out → AreOut b []
none-left {a = a} {out = out} (came {m = m} {job = job} s w) h =
    none-left w
    (λ k j. out_more (flags_at a k) (flags_at m k) _ k j out (_, job) refl (row_at Split a job m k s) (h k j))
none-left {a = a} {out = out} (closed {m = m} c w) h =
    none-left w (subst (λ (flags : List (List Bool)). AreOut flags out) (sym c) h)
none-left {a = a} (went {m = m} before after {job = job} {made = made} d few last p w) h =
    none-left w
    (λ k j. out_less (flags_at a k) (flags_at m k) _ k j before after (_, job) refl
    (row_at Met a job m k (subst (λ (ns : List ℕ). Rows Met a ns m) (sym d) p)) (h k j))
none-left over h = h
