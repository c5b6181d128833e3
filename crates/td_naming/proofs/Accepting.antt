-- Calls that are accepted changes, and histories that go on.
use Rattle.std.proofs.Common.{◌≡◌, ℕ, ◌+◌, Bool, true, false, ◌&&◌, not, List, [], ◌∷◌, ◌++◌}
use Rattle.std.proofs.Common.{refl, ap, sym, ◌∙◌, true≢false}
use Rattle.td_names.proofs.Changing.{changes_or_keeps}
use Rattle.td_names.proofs.Refusals.{changes_once}
use Rattle.td_names.specs.Applying.{apply_act}
use Rattle.td_names.specs.Changing.{ChangesStore, change_reply, is_change}
use Rattle.td_names.specs.Changing.ChangesStore.{refused, other, accepted}
use Rattle.td_names.specs.Refusing.{is_refusal}
use Rattle.td_names.specs.Stores.{Store}
use Rattle.td_names.specs.declared.act.NameAct.{NameAct}
use Rattle.td_names.specs.declared.act.NameAct.TheVariants as act
use Rattle.td_names.specs.declared.act.NameAnswer.{NameAnswer}
use Rattle.td_names.specs.declared.act.NameAnswer.TheVariants.{Done}
use Rattle.td_names.specs.declared.act.NameReply.{NameReply}
use Rattle.td_naming.specs.Histories.{IsAccepted, LegalFrom, after_all, after_change, change_at, is_accepted, made_by}
use Rattle.td_naming.specs.Histories.{reply_of}
use Rattle.td_naming.specs.declared.history.NameChange.{NameChange}

-- ---- truth values

both : (x y : Bool) → (x && y) ≡ true → (x ≡ true) × (y ≡ true)
both true y e = (refl, e)
both false y e = absurd (true≢false (sym e))

not_both : (x y : Bool) → y ≡ false → (x && y) ≡ false
not_both true y e = e
not_both false y e = refl

pub refusal_unaccepted : (a : NameAct) (r : NameAnswer) → is_refusal r ≡ true → is_accepted a r ≡ false
refusal_unaccepted a r h = not_both (is_change a) (not (is_refusal r)) (ap not h)

-- ---- one call

replied : (s : Store) (a : NameAct) → reply_of s.home (made_by s a) ≡ change_reply s a
replied s (act.Bind name o) = refl
replied s (act.BindContext name o) = refl
replied s (act.Rebind name o) = refl
replied s (act.Resolve name) = refl
replied s (act.Unbind name) = refl
replied s act.NewContext = refl
replied s (act.BindNewContext name) = refl
replied s act.Destroy = refl
replied s act.List = refl

-- the call leaves this, and is answered so
abbrev left : Store → ℕ → NameAct → Store
left s c a = (apply_act s c a).0

abbrev content : Store → ℕ → NameAct → NameAnswer
content s c a = (apply_act s c a).1

changes : (s : Store) (c : ℕ) (a : NameAct) → ChangesStore s a (content s c a) (left s c a)
changes s c a = changes_or_keeps s (left s c a) c a (content s c a) refl

accepted_from : (s t : Store) (c : ℕ) (a : NameAct) (r : NameAnswer) → ChangesStore s a r t → content s c a ≡ r
    → is_accepted a r ≡ true → IsAccepted s (change_at s c a)
accepted_from s t c a r (refused h e) is flag =
    absurd (true≢false (sym flag ∙ refusal_unaccepted a r h))
accepted_from s t c a r (other h e) is flag = absurd (true≢false (sym (both (is_change a) _ flag).0 ∙ h))
accepted_from s t c a r (accepted h e more) is flag = record {
  change = h;
  answer = is ∙ e ∙ ap (λ (x : NameReply). Done x) (sym (replied s a));
}

pub accepted_there : (s : Store) (c : ℕ) (a : NameAct) → is_accepted a (content s c a) ≡ true
    → IsAccepted s (change_at s c a)
accepted_there s c a flag = accepted_from s (left s c a) c a (content s c a) (changes s c a) refl flag

kept_from : (s t : Store) (a : NameAct) (r : NameAnswer) → ChangesStore s a r t → is_accepted a r ≡ false → t ≡ s
kept_from s t a r (refused h e) flag = e
kept_from s t a r (other h e) flag = e
kept_from s t a r (accepted h e more) flag =
    let so : is_accepted a r ≡ true = rw (h, e) refl in
    absurd (true≢false (sym so ∙ flag))

pub kept_there : (s : Store) (c : ℕ) (a : NameAct) → is_accepted a (content s c a) ≡ false → left s c a ≡ s
kept_there s c a flag = kept_from s (left s c a) a (content s c a) (changes s c a) flag

pub home_there : (s : Store) (c : ℕ) (a : NameAct) → (left s c a).home ≡ s.home
home_there s c a = (changes_once s (left s c a) c a (content s c a) refl).0

-- ---- histories

pub after_more : (s : Store) (h k : List NameChange) → after_all s (h ++ k) ≡ after_all (after_all s h) k
after_more s [] k = refl
after_more s (e ∷ es) k = after_more (after_change s e) es k

pub legal_more : (s : Store) (h k : List NameChange) → LegalFrom s h → LegalFrom (after_all s h) k → LegalFrom s (h ++ k)
legal_more s [] k a b = b
legal_more s (e ∷ es) k a b = (a.0, legal_more (after_change s e) es k a.1 b)
