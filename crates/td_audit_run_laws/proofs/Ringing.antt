-- The log of a ring is short, so that it passes.
use Rattle.std.proofs.Common.{◌≡◌, ◌≤◌, ℕ, zero, suc, List, [], ◌∷◌, length, map, Result, Ok, sym, ap, subst, ◌∙◌}
use Rattle.std.proofs.Common.{arith, length-append, refl}
use Rattle.td_audit_laws.specs.Laws.{VerdictsAreOne}
use Rattle.td_audit_run_laws.proofs.Filed.{files-at, files-right}
use Rattle.td_audit_run_laws.proofs.Generating.{generated-octets}
use Rattle.td_audit_run_laws.proofs.Sparse.{generated-small, generated-sparse}
use Rattle.td_audit_run_laws.specs.Rings.{RingLogsAreRight, RingLogsAreShort, RingLogsFit}
use Rattle.td_file.specs.Files.{Opening, opening_of}
use Rattle.td_lines.specs.declared.entry.Refused.{Refused}
use Rattle.td_log_laws.proofs.Shortness.{made-short}
use Rattle.td_log_laws.proofs.Weighing.{made-fits}
use Rattle.td_make.specs.Generated.{generated_file}
use Rattle.td_make_file_laws.specs.Opened.{GeneratedOpen}
use Rattle.td_make_laws.specs.Said.{GeneratedAreRead, first_names, name_of}
use Rattle.td_trader.specs.PlainTraders.{PlainTrader}

names-count : (n : ℕ) → length (first_names n) ≡ n
names-count zero = refl
names-count (suc done) =
    let before = names-count done in omega (arith, before, length-append (first_names done) (name_of (suc done) ∷ []))

mapped : (ts : List PlainTrader) → length (map (λ (t : PlainTrader). t.name) ts) ≡ length ts
mapped [] = refl
mapped (t ∷ ts) = let later = mapped ts in omega (arith, later)

-- a ring has as many traders
traders-count : GeneratedOpen → (count : ℕ) (o : Opening) → 1 ≤ count → count ≤ 64
    → opening_of (generated_file count) ≡ Ok o → length o.traders ≡ count
traders-count opens count o least most opened =
    let known = opens count least most in
    let both : ◌≡◌ {A = Result Opening Refused} (Ok known.opening) (Ok o) = sym known.opened ∙ opened in
    let same : known.opening ≡ o = cc in
    let names : map (λ (t : PlainTrader). t.name) o.traders ≡ first_names count =
    subst (λ (p : Opening). map (λ (t : PlainTrader). t.name) p.traders ≡ first_names count) same known.names in
    let all : length (map (λ (t : PlainTrader). t.name) o.traders) ≡ count =
    ap (length {A = List ℕ}) names ∙ names-count count in
    sym (mapped o.traders) ∙ all

pub rings-short : GeneratedAreRead → GeneratedOpen → RingLogsAreShort
rings-short read opens count o log least most opened is =
    let all = traders-count opens count o least most opened in
    let few = made-short o.traders o.home log (generated-sparse read count o least most opened) is in
    omega (arith, all, few)

pub rings-fit : GeneratedAreRead → GeneratedOpen → RingLogsFit
rings-fit read opens count o log least most opened is =
    let all = traders-count opens count o least most opened in
    made-fits o.traders o.home log (files-at (generated_file count) o opened)
    (generated-sparse read count o least most opened) (generated-small read count o least most opened)
    (omega (arith, all, most)) is

pub rings-right : VerdictsAreOne → GeneratedAreRead → GeneratedOpen → RingLogsAreRight
rings-right one read opens count o log v least most opened is audit =
    files-right one (generated_file count) log o v (generated-octets count least most) opened is
    (let fits = rings-fit read opens count o log least most opened is in omega (arith, fits)) audit
