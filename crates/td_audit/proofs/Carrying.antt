-- What is left of a log comes to what all of it comes to.
use Rattle.std.proofs.Common.{◌≡◌, ℕ, ◌+◌, List, [], ◌∷◌, Err, sym, subst}
use Rattle.td_audit.specs.Auditing.{HasVerdict, AuditState, fails, over, passes, strange}
use Rattle.td_audit.specs.Judging.{AuditedOrWants, LinePasses, TakesLine, verdict_of}
use Rattle.td_audit.specs.declared.verdict.Halt.{Halt}
use Rattle.td_audit.specs.declared.verdict.Halt.TheVariants as halt
use Rattle.td_audit.specs.declared.verdict.Verdict.{Verdict}
use Rattle.td_audit.specs.declared.verdict.Verdict.TheVariants as verdict
use Rattle.td_walk.specs.declared.trace.Address.{Address}

module _ (home : Address) (names : List (List ℕ)) where
  abbrev pub Carries : AuditState → (number : ℕ) → (rest : List (List ℕ)) → AuditState → ℕ → List (List ℕ) → Type 0
  Carries s n rest s0 n0 all = (v : Verdict) → HasVerdict home names s n rest v → HasVerdict home names s0 n0 all v

  pub carries-on : (s t s0 : AuditState) (n n0 : ℕ) (line : List ℕ) (rest after all : List (List ℕ)) → rest ≡ line ∷ after
      → LinePasses home names s line t → Carries s n rest s0 n0 all → Carries t (n + 1) after s0 n0 all
  carries-on s t s0 n n0 line rest after all e p c v a =
      c v (subst (λ (ls : List (List ℕ)). HasVerdict home names s n ls v) (sym e) (passes p.read p.judged a))

  pub carries-over : (s s0 : AuditState) (n n0 : ℕ) (rest all : List (List ℕ)) → rest ≡ [] → Carries s n rest s0 n0 all
      → AuditedOrWants home names s0 n0 all (verdict.Yes n)
  carries-over s s0 n n0 rest all e c =
      c (verdict.Yes n)
      (subst (λ (ls : List (List ℕ)). HasVerdict home names s n ls (verdict.Yes n)) (sym e) over)

  pub carries-stop : (s t s0 : AuditState) (n n0 : ℕ) (line : List ℕ) (rest after all : List (List ℕ)) (h : Halt)
      → rest ≡ line ∷ after → TakesLine home names s line (Err h) t → Carries s n rest s0 n0 all
      → AuditedOrWants home names s0 n0 all (verdict_of h (n + 1))
  carries-stop s t s0 n n0 line rest after all (halt.At cause) e f c =
      c (verdict.No (n + 1) cause)
      (subst (λ (ls : List (List ℕ)). HasVerdict home names s n ls (verdict.No (n + 1) cause)) (sym e)
      (fails f.read f.judged))
  carries-stop s t s0 n n0 line rest after all halt.Strange e f c =
      c (verdict.Line (n + 1))
      (subst (λ (ls : List (List ℕ)). HasVerdict home names s n ls (verdict.Line (n + 1))) (sym e) (strange f))
  carries-stop s t s0 n n0 line rest after all halt.Memory e f c = tt
