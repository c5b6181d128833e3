-- What holds of every call, whatever others do meanwhile.
use Rattle.std.proofs.Common.{◌≡◌, ℕ, ◌+◌, ◌≤◌, Bool, true, false, cond, List, [], ◌∷◌, ◌++◌, length, inl, inr}
use Rattle.std.proofs.Common.{refl, ap, sym, ◌∙◌, arith, subst}
use Rattle.std.proofs.lemmas.Bool.{cases_Bool}
use Rattle.std.proofs.lemmas.List.{length-append}
use Rattle.td_typecode.specs.declared.reference.Ior.{Ior}
use Rattle.td_names.proofs.Reached.{resolved_reaches, reached_resolves}
use Rattle.td_names.specs.Applying.{AppliesCall, apply_act}
use Rattle.td_names.specs.Stores.{Store, start}
use Rattle.td_names.specs.declared.act.NameAct.{NameAct}
use Rattle.td_names.specs.declared.act.NameAct.TheVariants as act
use Rattle.td_names.specs.declared.act.NameAnswer.{NameAnswer}
use Rattle.td_names.specs.declared.act.NameAnswer.TheVariants.{Done}
use Rattle.td_names.specs.declared.act.NameReply.TheVariants.{Object}
use Rattle.td_names.specs.declared.component.NameComponent.{NameComponent}
use Rattle.td_naming.proofs.Accepting.{accepted_there, kept_there, legal_more, refusal_unaccepted}
use Rattle.td_naming.specs.Histories.{Legal, change_at, is_accepted}
use Rattle.td_naming.specs.Laws.{AcceptedStand, RefusalsChangeNothing, ResolvesByReach, StaysLegal}
use Rattle.td_naming.specs.Views.{Meanwhile, View, after_own, answer_at, store_seen, with_own}
use Rattle.td_naming.specs.declared.history.NameChange.{NameChange}

-- a call that isn't accepted leaves what is seen
unowned : (v u : View) (c : ℕ) (a : NameAct) (r : NameAnswer) → u ≡ after_own v c a r → is_accepted a r ≡ false → u ≡ v
unowned v u c a r is flag = is ∙ ap (λ (b : Bool). cond b (with_own v (change_at (store_seen v) c a)) v) flag

-- one that is has its change at the end
owned : (v u : View) (c : ℕ) (a : NameAct) (r : NameAnswer) → u ≡ after_own v c a r → is_accepted a r ≡ true
    → u ≡ with_own v (change_at (store_seen v) c a)
owned v u c a r is flag = is ∙ ap (λ (b : Bool). cond b (with_own v (change_at (store_seen v) c a)) v) flag

module _ (others : List NameChange → Type 0) where
  pub refusals : RefusalsChangeNothing others
  refusals v u c a r h refused =
      subst (λ (x : View). Meanwhile others v x)
      (sym (unowned h.seen u c a r h.after (refusal_unaccepted a r refused))) h.meanwhile

  seen_legal : (v u : View) → Meanwhile others v u → Legal v.home v.history → Legal u.home u.history
  seen_legal v u m legal =
      subst (λ (x : View). Legal x.home x.history) (sym m.is)
      (legal_more (start v.home) v.history m.between legal m.legal)

  legal_with : (v : View) (c : ℕ) (a : NameAct) → Legal v.home v.history → is_accepted a (answer_at v c a) ≡ true
      → Legal v.home (v.history ++ change_at (store_seen v) c a ∷ [])
  legal_with v c a legal flag =
      legal_more (start v.home) v.history (change_at (store_seen v) c a ∷ []) legal
      (accepted_there (store_seen v) c a flag, tt)

  pub stays_legal : StaysLegal others
  stays_legal v u c a r h legal =
      let seen = seen_legal v h.seen h.meanwhile legal in
      elim (cases_Bool (is_accepted a r)) [
        | inl flag ↦
            subst (λ (x : View). Legal x.home x.history) (sym (owned h.seen u c a r h.after flag))
            (legal_with h.seen c a seen (rw h.answer at flag))
        | inr flag ↦
            subst (λ (x : View). Legal x.home x.history) (sym (unowned h.seen u c a r h.after flag)) seen
      ]

  seen_grows : (v u : View) → Meanwhile others v u → length v.history ≤ length u.history
  seen_grows v u m =
      omega (
        arith,
        ap (λ (x : View). length x.history) m.is,
        length-append v.history m.between,
      )

  seen_own : (v u : View) → Meanwhile others v u → u.own ≡ v.own
  seen_own v u m = ap (λ (x : View). x.own) m.is

  pub accepted_stand : AcceptedStand others
  accepted_stand v u c a r h flag =
      let is = owned h.seen u c a r h.after flag in
      record {
        before = h.seen.history;
        change = change_at (store_seen h.seen) c a;
        is = (refl, refl);
        history = ap (λ (x : View). x.history) is;
        own =
            ap (λ (x : View). x.own) is
            ∙ ap (λ (o : List ℕ). o ++ length h.seen.history ∷ []) (seen_own v h.seen h.meanwhile);
        seen = seen_grows v h.seen h.meanwhile;
      }

  -- a name that is resolved leaves the store
  resolve_keeps : (s : Store) (c : ℕ) (name : List NameComponent) (object : Ior)
      → (apply_act s c (act.Resolve name)).1 ≡ Done (Object object) → AppliesCall s c (act.Resolve name) (Done (Object object)) s
  resolve_keeps s c name object is =
      let kept : (apply_act s c (act.Resolve name)).0 ≡ s = kept_there s c (act.Resolve name) refl in
      let pair : ((apply_act s c (act.Resolve name)).0, (apply_act s c (act.Resolve name)).1) ≡ (s, Done (Object object)) =
      rw (kept, is) refl in
      sym pair

  pub resolves : ResolvesByReach others
  resolves v u c name r object h fits live =
      let is : u ≡ h.seen = unowned h.seen u c (act.Resolve name) r h.after refl in
      let content : r ≡ (apply_act (store_seen u) c (act.Resolve name)).1 =
      h.answer ∙ ap (λ (x : View). answer_at x c (act.Resolve name)) (sym is) in (
        λ done. resolved_reaches (store_seen u) c name object fits live
            (resolve_keeps (store_seen u) c name object (sym content ∙ done)),
        λ reach. content
            ∙ sym (ap (λ (p : Store × NameAnswer). p.1)
            (reached_resolves (store_seen u) c name object fits live reach)),
      )
