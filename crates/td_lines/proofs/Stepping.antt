-- What a line comes to, from what its entry comes to.
use Rattle.std.proofs.Common.{◌≡◌, ℕ, List, Result, Ok, Err, sym, ap, ◌∙◌, subst}
use Rattle.td_lines.specs.Drafts.{UpdatesDraft, close_entry}
use Rattle.td_lines.specs.Steps.{Steps, at, refusal, step, stops, with_alone, with_begin, with_head, with_part}
use Rattle.td_lines.specs.declared.cause.LineCause.{LineCause}
use Rattle.td_lines.specs.declared.cause.Misfit.{Misfit}
use Rattle.td_lines.specs.declared.cause.Misfit.TheVariants.{Is, Memory}
use Rattle.td_lines.specs.declared.draft.ScriptDraft.{ScriptDraft}
use Rattle.td_lines.specs.declared.keyword.EntryHead.{EntryHead}
use Rattle.td_lines.specs.declared.keyword.DetailKeyword.{DetailKeyword}
use Rattle.td_lines.specs.declared.parts.ParseStop.{ParseStop}

stepped : (content : Result ScriptDraft LineCause) (old new : ScriptDraft) (n : ℕ) (r : Result (Unit {0}) Misfit)
    → UpdatesDraft content old new r → Steps (step old n content) new (at n r)
stepped content old new n (Ok _) h = ap (step old n) h
stepped content old new n (Err (Is cause)) h =
    ap (step old n) h.0 ∙ ap (λ (d : ScriptDraft). stops d (refusal n cause)) (sym h.1)
stepped content old new n (Err Memory) h = tt

pub begun : (d behind new : ScriptDraft) (n : ℕ) (head : EntryHead) (line : List ℕ) (r : Result (Unit {0}) Misfit)
    (answer : Result (Unit {0}) ParseStop)
    → behind ≡ close_entry d → UpdatesDraft (with_head behind n head line) behind new r → answer ≡ at n r
    → Steps (with_begin d n head line) new answer
unfolding with_begin
begun d behind new n head line r answer e h a =
    let here = stepped (with_head behind n head line) behind new n r h in
    let there =
    subst (λ (x : ScriptDraft). Steps (step x n (with_head x n head line)) new (at n r)) e here in
    subst (λ (x : Result (Unit {0}) ParseStop). Steps (step (close_entry d) n (with_head (close_entry d) n head line)) new x) (sym a)
    there

pub alone : (d behind new : ScriptDraft) (n : ℕ) (part : DetailKeyword) (line : List ℕ) (r : Result (Unit {0}) Misfit)
    (answer : Result (Unit {0}) ParseStop)
    → behind ≡ close_entry d → UpdatesDraft (with_part behind part line) behind new r → answer ≡ at n r
    → Steps (with_alone d n part line) new answer
unfolding with_alone
alone d behind new n part line r answer e h a =
    let here = stepped (with_part behind part line) behind new n r h in
    let there =
    subst (λ (x : ScriptDraft). Steps (step x n (with_part x part line)) new (at n r)) e here in
    subst (λ (x : Result (Unit {0}) ParseStop). Steps (step (close_entry d) n (with_part (close_entry d) part line)) new x) (sym a)
    there
