-- What add_link is answered with.
use Rattle.std.proofs.Common.{◌≡◌, ◌⊎◌, inl, inr, ℕ, ◌<◌, false, List, length, refl, sym, ap, subst, ◌∙◌, IfOk}
use Rattle.std.proofs.Common.{Option, Some, None}
use Rattle.std.specs.Prelude.{IfErr, Result, Ok, Err}
use Rattle.td_cdr.specs.Marks.{Marks}
use Rattle.td_cdr.specs.declared.memory.Memory.{Memory}
use Rattle.td_typecode.specs.declared.reference.Ior.{Ior}
use Rattle.td_objects.specs.References.{register_reference}
use Rattle.td_targets.proofs.Within.{inside-within}
use Rattle.td_targets.specs.Targets.{inside_group}
use Rattle.td_ior.specs.Profiles.{iiop_of}
use Rattle.td_ior.specs.declared.profile.Iiop.{Iiop}
use Rattle.td_ops.specs.declared.call.AddLink.{AddLink}
use Rattle.td_ops.specs.declared.call.Change.{Change}
use Rattle.td_ops.specs.declared.outcome.Outcome.{Outcome}
use Rattle.td_register.specs.declared.history.Accepted.{Accepted}
use Rattle.td_trader.specs.Worlds.{ChangesTrader, View, history_at, name_at}
use Rattle.td_walk.specs.Peering.{IsNoted, Referred, RegisterOf, is_memory}
use Rattle.td_walk.specs.declared.trace.Address.{Address}
use Rattle.td_servant.proofs.Seen.{changed_point}
use Rattle.td_servant.specs.Answers.{AnswersPlainly, no_memory}
use Rattle.td_servant.specs.Changing.{ChangeComes, Rests, changes_before}
use Rattle.td_servant.specs.Linking.{AddLinkBy, AddLinkComes, AskedInVain, ChangeNoted, Gave, LinkedAs, NotedInVain}
use Rattle.td_servant.specs.Linking.{PeersSeen, RegisterAsked, link_change}
use Rattle.td_servant.specs.Targets.{group_target, target_by, target_of}
use Rattle.td_servant.specs.declared.answer.Answer.{Answer}
use Rattle.td_servant.specs.declared.answer.ReplyBody.TheVariants as reply_body
use Rattle.td_servant.specs.declared.entry.Entry.{Entry}
use Rattle.td_servant.specs.declared.entry.Entry.TheVariants.{Asked}
use Rattle.td_servant.specs.declared.target.Target.{Target}
use Rattle.td_servant.specs.declared.target.Target.TheVariants.{Inside, Outside}

-- ---- a target inside is a trader of the group

by_found : (w : List View) (found : Option ℕ) (j : ℕ) → ((i : ℕ) → found ≡ Some i → i < length w)
    → group_target found ≡ Inside j → j < length w
by_found w (Some i) j within e =
    let same : i ≡ j = cc in subst (λ (x : ℕ). x < length w) same (within i refl)
by_found w None j within e = absurd cc

by_profile : (home : Address) (w : List View) (target : Ior) (p : Option Iiop) (j : ℕ)
    → target_by home w target p ≡ Inside j → j < length w
by_profile home w target (Some p) j e =
    by_found w (inside_group home w target) j (λ i found. inside-within home w target i found) e
by_profile home w target None j e = absurd cc

pub inside_within : (home : Address) (w : List View) (target : Ior) (t : Target) (j : ℕ) → t ≡ target_of home w target
    → t ≡ Inside j → j < length w
inside_within home w target t j is e = by_profile home w target (iiop_of target) j (sym is ∙ e)

module _ (others : List Accepted → Type 0) (later : Marks → Marks → Type 0) where
  -- ---- what is noted

  pub change_noted : (w u : List View) (k : ℕ) (c : Change) (o : Outcome) (point : ℕ) (gave : Gave)
      → ChangesTrader others later w k c o u → point ≡ changes_before o (length (history_at u k))
      → AnswersPlainly (λ (x : Outcome) (e : Entry). ChangeNoted others later w k c gave x e u
      ⊎ NotedInVain others later w k gave x e u)
      (record { body = reply_body.Outcome o; entry = Asked k point gave })
  change_noted w u k c o point gave r e = record {
    outcome = o;
    comes =
        inl (record {
          changes = r;
          noted = ap (λ (n : ℕ). Asked k n gave) (e ∙ changed_point others later w u k c o r);
        });
    content = refl;
  }

  pub no_memory_entry : (w u : List View) (k : ℕ) (c : Change) (gave : Gave) (point : ℕ) → point ≡ length (history_at u k)
      → Rests others later w k u
      → AnswersPlainly (λ (x : Outcome) (e : Entry). ChangeNoted others later w k c gave x e u
      ⊎ NotedInVain others later w k gave x e u)
      (record { body = reply_body.Outcome no_memory; entry = Asked k point gave })
  no_memory_entry w u k c gave point e rests = record {
    outcome = no_memory;
    comes = inr (record { rests = rests; outcome = refl; noted = ap (λ (n : ℕ). Asked k n gave) e });
    content = refl;
  }

  -- ---- a peer that is asked

  module _ (home : Address) (w u : List View) (k : ℕ) (l : AddLink) (before after : PeersSeen) where
    asked_by : (gave : Gave) (o : Outcome) (e : Entry) → target_of home w l.target ≡ Outside
        → IsNoted (λ r. Referred r) (RegisterOf l.target) before.calls after.calls before.faults after.faults gave
        → IfErr gave (λ f. is_memory f ≡ false)
        → (LinkedAs others later w k l gave o e u ⊎ NotedInVain others later w k gave o e u)
        → (RegisterAsked others later w k l before after o e u
        ⊎ AskedInVain others later home w k l before after o e u)
    asked_by gave o e out asked answered (inl h) =
        inl (record { gave = gave; asked = asked; answered = answered; linked = h })
    asked_by gave o e out asked answered (inr h) =
        inr (record { outside = out; gave = gave; asked = asked; answered = answered; noted = h })

    pub asked_content : (gave : Gave) (a : Answer) → target_of home w l.target ≡ Outside
        → IsNoted (λ r. Referred r) (RegisterOf l.target) before.calls after.calls before.faults after.faults gave
        → IfErr gave (λ f. is_memory f ≡ false)
        → AnswersPlainly (λ (o : Outcome) (e : Entry). LinkedAs others later w k l gave o e u
        ⊎ NotedInVain others later w k gave o e u) a
        → AnswersPlainly (λ (o : Outcome) (e : Entry). RegisterAsked others later w k l before after o e u
        ⊎ AskedInVain others later home w k l before after o e u) a
    asked_content gave a out asked answered h = record {
      outcome = h.outcome;
      comes = asked_by gave h.outcome a.entry out asked answered h.comes;
      content = h.content;
    }

  -- ---- by where the target is

  -- what add_link is answered with
  abbrev AnswersLink : Address → (w u : List View) → (k : ℕ) → AddLink → (before after : PeersSeen) → Answer → Type 0
  AnswersLink home w u k l before after a =
      AnswersPlainly (λ (o : Outcome) (e : Entry). AddLinkComes others later home w k l before after o e u
      ⊎ AskedInVain others later home w k l before after o e u) a

  module _ (home : Address) (w u : List View) (k : ℕ) (l : AddLink) (r : Result Answer Memory) where
    outside_comes : (before after : PeersSeen) (o : Outcome) (e : Entry) → target_of home w l.target ≡ Outside
        → (RegisterAsked others later w k l before after o e u ⊎ AskedInVain others later home w k l before after o e u)
        → (AddLinkComes others later home w k l before after o e u
        ⊎ AskedInVain others later home w k l before after o e u)
    outside_comes before after o e is (inl h) =
        inl (subst (λ (t : Target). AddLinkBy others later t home w k l before after o e u) (sym is) h)
    outside_comes before after o e is (inr h) = inr h

    pub by_outside : (before after : PeersSeen) → target_of home w l.target ≡ Outside
        → IfOk r (λ a. AnswersPlainly (λ (o : Outcome) (e : Entry). RegisterAsked others later w k l before after o e u
        ⊎ AskedInVain others later home w k l before after o e u) a)
        → IfOk r (λ a. AnswersLink home w u k l before after a)
    by_outside before after is h = from r h
      where
        from : (x : Result Answer Memory)
            → IfOk x (λ a. AnswersPlainly (λ (o : Outcome) (e : Entry). RegisterAsked others later w k l before after o e
            u ⊎ AskedInVain others later home w k l before after o e u) a)
            → IfOk x (λ a. AnswersLink home w u k l before after a)
        from (Ok a) g = record {
          outcome = g.outcome;
          comes = outside_comes before after g.outcome a.entry is g.comes;
          content = g.content;
        }
        from (Err m) g = tt

  pub inside_content : (home : Address) (w u : List View) (k : ℕ) (l : AddLink) (r : Result Answer Memory) (j : ℕ)
      (register : Ior) (name : List ℕ) (c : Change) → register ≡ register_reference home name → name ≡ name_at w j
      → c ≡ link_change l (Some register)
      → IfOk r (λ a. AnswersPlainly (λ (o : Outcome) (e : Entry). ChangeComes others later w k c o e u) a)
      → IfOk r (λ a. AnswersPlainly (λ (o : Outcome) (e : Entry). ChangeComes others later w k
      (link_change l (Some (register_reference home (name_at w j)))) o e u) a)
  inside_content home w u k l r j register name c made named is h =
      let same : register ≡ register_reference home (name_at w j) =
      made ∙ ap (λ (x : List ℕ). register_reference home x) named in
      subst (λ (x : Change). IfOk r (λ a. AnswersPlainly (λ (o : Outcome) (e : Entry). ChangeComes others later w k x o e
      u) a)) (is ∙ ap (λ (x : Ior). link_change l (Some x)) same) h
