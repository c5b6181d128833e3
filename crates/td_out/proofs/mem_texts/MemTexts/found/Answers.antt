use Rattle.std.proofs.Common.{◌≡◌, Ok, Err, MatchResult, sym, ap, ◌∙◌, subst}
use Rattle.td_out.specs.Calls.{fails}
use Rattle.td_out.specs.InMemory.{Shelf, named_texts}
use Rattle.td_out.proofs.Finding.{answered}
use Rattle.td_out.proofs.mem_texts.MemTexts.found.Goals as goal

pub returns : goal.returns
returns c =
    let held = sym (ap (λ (s : Shelf). s.texts) c.self.view_is) ∙ ap named_texts (sym c.deref.ensures) in
    let goes = sym (ap (λ (s : Shelf). fails s.calls) c.self.view_is) ∙ sym c.fails.ensures ∙ c.if-fails.false in
    subst (λ answer. MatchResult c.as_given.result (λ text. answer ≡ Ok text.now) (λ e. answer ≡ Err e))
    (answered c.args.self.now c.args.name.now c.deref.result.now _ held goes c.find_text.ensures) c.as_given.ensures
