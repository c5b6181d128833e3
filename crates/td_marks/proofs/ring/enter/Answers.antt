use Rattle.std.proofs.Common.{sym, ◌≡◌, None, ◌∙◌, subst, List, ℕ}
use Rattle.std.specs.Map.{lookup}
use Rattle.indexmap.proofs.CallerLemmas.{insert_entry-new}
use Rattle.td_marks.specs.Keeping.{same_key, is_key}
use Rattle.td_marks.proofs.Found.{is_entered}
use Rattle.td_marks.proofs.ring.enter.Goals as goal

pub returns-clause-entered : goal.returns-clause-entered
returns-clause-entered c =
    let key = c.in_ok-key.key in
    let is = c.in_ok-key.ensures.items in
    let absent =
    subst (λ (i : List ℕ). lookup (is_key i) c.args.numbers.now.entries ≡ None) (sym is) c.requires.fresh in
    is_entered c.args.numbers.now.entries c.insert.new.self.entries key c.args.identifier.now c.args.number
    (c.in_ok-insert.ensures.entries ∙ insert_entry-new same_key c.args.numbers.now key c.args.number absent) is
