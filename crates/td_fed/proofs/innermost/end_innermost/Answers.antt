use Rattle.std.proofs.Common.{ℕ, [], ◌∷◌, ◌++◌, refl, ap, ◌∙◌}
use mathlib.Core.Path.{fun_ext}
use Rattle.td_fed.proofs.Called.{on-err}
use Rattle.td_fed.proofs.Beginnings.{closed-nothing, closed-so-far}
use Rattle.td_fed.proofs.Moving.{draws-none}
use Rattle.td_fed.proofs.Showing.{shown-same}
use Rattle.td_fed.proofs.innermost.end_innermost.Goals as goal
use Rattle.td_fed.specs.Visiting.{course}
use Rattle.td_walk.specs.declared.trace.TraceItem.TheVariants as item

pub returns-in_err-reserve-clause-shown : goal.returns-in_err-reserve-clause-shown
returns-in_err-reserve-clause-shown g c = λ w calls.
    shown-same w calls calls c.args.notes.now.items c.reserve.new.self.items refl c.reserve.ensures.items

pub returns-in_err-visit-in-Some-clause-shown : goal.returns-in_err-visit-in-Some-clause-shown
returns-in_err-visit-in-Some-clause-shown g c = λ w calls.
    shown-same w calls calls c.args.notes.now.items c.end.new.notes.items refl
    (c.in_err-visit-in-Some.ensures.unchanged ∙ c.reserve.ensures.items)

pub returns-in_err-reserve-clause-draws : goal.returns-in_err-reserve-clause-draws
returns-in_err-reserve-clause-draws g c = draws-none (g.W.Words.word c.args.words.now)

pub returns-in_err-reserve-clause-so_far : goal.returns-in_err-reserve-clause-so_far
returns-in_err-reserve-clause-so_far g c = λ w calls.
    let s = course w (g.W.Words.word c.args.words.now) calls in
    on-err _ (closed-nothing s s c.args.stack.now.items c.args.notes.now.items c.reserve.new.self.items refl
    c.reserve.ensures.items)

pub returns-in_err-visit-in-Some-clause-so_far : goal.returns-in_err-visit-in-Some-clause-so_far
returns-in_err-visit-in-Some-clause-so_far g c = λ w calls.
    on-err _ (closed-nothing (course w (g.W.Words.word c.args.words.now) calls)
    (course w (g.W.Words.word c.end.new.words) calls) c.args.stack.now.items c.args.notes.now.items
    c.end.new.notes.items
    (ap (λ (words : ℕ → ℕ). course w words calls) (fun_ext c.in_err-visit-in-Some.ensures.kept))
    (c.in_err-visit-in-Some.ensures.unchanged ∙ c.reserve.ensures.items))

pub returns-clause-so_far : goal.returns-clause-so_far
returns-clause-so_far g c = λ w calls.
    closed-so-far (course w (g.W.Words.word c.args.words.now) calls)
    (course w (g.W.Words.word c.end.new.words) calls) c.args.stack.now.items c.pop.new.self.items c.in-Some.top
    c.in_ok-visit-in-Some.visit c.args.notes.now.items c.end.new.notes.items c.give_back.result
    c.in-Some.ensures.items (c.in_ok-visit-in-Some.ensures.ends w calls)
    (c.in_ok-visit-in-Some.ensures.notes ∙ ap (λ t. t ++ item.Leave ∷ []) c.reserve.ensures.items)
