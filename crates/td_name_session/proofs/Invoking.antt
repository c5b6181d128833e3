-- What a call comes to, with the body of its reply.
use Rattle.std.proofs.Common.{◌≡◌, ◌⊎◌, inl, inr, ℕ, zero, suc, ◌<◌, ◌≤◌, Bool, true, false, cond, ◌&&◌, not, List, [], ◌∷◌, ◌++◌, length}
use Rattle.std.proofs.Common.{Option, Some, None, take, drop, refl, sym, ap, subst, ◌∙◌, arith}
use Rattle.std.proofs.lemmas.Bool.{cases_Bool}
use Rattle.std.specs.Prelude.{Result, Ok, Err, IfOk, slice_get}
use Rattle.td_cdr.specs.Writing.{Draft}
use Rattle.td_cdr.specs.declared.memory.Memory.{Memory as OutOfMemory}
use Rattle.td_typecode.specs.Formats.{is_nonempty}
use Rattle.td_typecode.specs.declared.reference.Ior.{Ior}
use Rattle.td_giop.specs.Written.{reply_start}
use Rattle.td_iter.specs.Batches.{GivesBatch}
use Rattle.td_iter.specs.Desks.{item_of, without_item, with_item}
use Rattle.td_iter.specs.Heads.{AreShort, given_or_nil}
use Rattle.td_name_ops.specs.Outcomes.{next_one_piece}
use Rattle.td_name_ops.specs.declared.call.IteratorCall.{IteratorCall}
use Rattle.td_name_ops.specs.declared.call.IteratorCall.TheVariants as iter
use Rattle.td_name_ops.specs.declared.call.NameCall.TheVariants as call
use Rattle.td_name_ops.specs.declared.outcome.NameOutcome.{NameOutcome}
use Rattle.td_name_ops.specs.declared.outcome.NameOutcome.TheVariants as outcome
use Rattle.td_name_ops.specs.declared.outcome.NameResult.TheVariants as result
use Rattle.td_name_ops.specs.declared.operation.NameKind.{NameKind}
use Rattle.td_names.specs.Changing.{is_change}
use Rattle.td_names.specs.References.{IsAddress}
use Rattle.td_names.specs.Refusing.{is_refusal}
use Rattle.td_names.specs.Spelling.{binding}
use Rattle.td_names.specs.declared.act.NameAct.{NameAct}
use Rattle.td_names.specs.declared.act.NameAct.TheVariants as act
use Rattle.td_names.specs.declared.act.NameAnswer.{NameAnswer}
use Rattle.td_names.specs.declared.act.NameAnswer.TheVariants.{Done}
use Rattle.td_names.specs.declared.act.NameReply.TheVariants as reply
use Rattle.td_names.specs.declared.address.Address.{Address as Home}
use Rattle.td_names.specs.declared.component.NameBinding.{NameBinding}
use Rattle.td_naming.specs.Histories.{change_at, is_accepted}
use Rattle.td_naming.specs.Views.{NamingActs, Meanwhile, View, store_seen, with_own}
use Rattle.td_naming.specs.declared.history.NameChange.{NameChange}
use Rattle.td_ops.specs.declared.outcome.SystemKind.{SystemKind}
use Rattle.td_ops.specs.declared.outcome.SystemKind.TheVariants.{NoMemory, ObjectNotExist}
use Rattle.td_name_session.proofs.Keeping.{dead_item, item_kept, live_item}
use Rattle.td_name_session.proofs.Short.{accepted_fits, nothing_fits, refused_fits, system_fits, truth_fits}
use Rattle.td_name_session.specs.Keys.{context_in, desk_label, iterator_in, iterator_reference, kind_of}
use Rattle.td_name_session.specs.Outcomes.{no_memory, outcome_of, refusal_outcome, system}
use Rattle.td_name_session.specs.Invoking.{ActsTo, CutsTo, GivesTo, IfOutcome, IsBodyOf, IsOutOfMemory, Iterates, Lists}
use Rattle.td_name_session.specs.Invoking.{ListsOrWants, InvokesInto, Invokes, PutsBindings, TellsTruth, batch_call}
use Rattle.td_name_session.specs.Invoking.ActsTo.{done as act_done, no_memory_outcome as act_no_memory}
use Rattle.td_name_session.specs.Invoking.GivesTo.{gives, no_memory_outcome as batch_no_memory}
use Rattle.td_name_session.specs.Invoking.Iterates.{done as iterator_done, no_memory_outcome as iterator_no_memory}
use Rattle.td_name_session.specs.Invoking.ListsOrWants.{lists, no_memory_outcome as list_no_memory}
use Rattle.td_name_session.specs.Requests.{OutcomeOfRequest, IteratorDone, AnswersNoMemory, first_of, is_a}
use Rattle.td_name_session.specs.Requests.{next_head}
use Rattle.td_name_session.specs.Scenes.{Idles, IteratorList, Scene, is_kept, scene}
use Rattle.td_name_session.specs.Finishing.{AlwaysFits}
use Rattle.td_name_session.specs.declared.answer.Answer.{Answer}
use Rattle.td_name_session.specs.declared.answer.AnswerBody.{AnswerBody}
use Rattle.td_name_session.specs.declared.answer.AnswerBody.TheVariants.{Outcome, Written}
use Rattle.td_name_session.specs.declared.judging.Judged.{Judged}
use Rattle.td_name_session.specs.declared.judging.Judged.TheVariants.{Call, Refused}
use Rattle.td_name_session.specs.declared.keys.NameKey.{NameKey}
use Rattle.td_name_session.specs.declared.reply_to.ReplyTo.{ReplyTo}

-- ---- bodies

body_in_reply : (o : NameOutcome) (b : AnswerBody) (draft written : Draft) → b ≡ Outcome o → IsBodyOf o b draft written
body_in_reply o b draft written content = subst (λ (x : AnswerBody). IsBodyOf o x draft written) (sym content) refl

body_written : (o : NameOutcome) (b : AnswerBody) (draft written : Draft) → b ≡ Written
    → IsBodyOf o Written draft written → IsBodyOf o b draft written
body_written o b draft written content h = subst (λ (x : AnswerBody). IsBodyOf o x draft written) (sym content) h

-- a fact of a body that is still to be written
if_content : (b : AnswerBody) (P : Type 0) → P → IfOutcome b P
if_content (Outcome content) P h = h
if_content Written P h = tt

if_written : (b : AnswerBody) (P : Type 0) → b ≡ Written → IfOutcome b P
if_written (Outcome content) P e = absurd cc
if_written Written P e = tt

if_other : (b : AnswerBody) (P Q : Type 0) → (P → Q) → IfOutcome b P → IfOutcome b Q
if_other (Outcome content) P Q f h = f h
if_other Written P Q f h = tt

-- ---- iterators

abbrev label : List ℕ
label = desk_label

module _ (n : ℕ) (draft : Draft) (d : IteratorList) (a : Answer) (written : Draft) where
  -- the next binding, or at most so many
  batch_done : (m : Option ℕ) (left rest : List NameBinding) → PutsBindings (batch_call m) left draft written rest
      → a.body ≡ Written → a.accepted ≡ false → item_of label n d ≡ Some left
      → Iterates n (batch_call m) draft d a written (with_item label n d rest)
  batch_done None left rest puts body flag there =
      let o = outcome.Done (result.NextOne (first_of left)) in
      iterator_done o
      (subst (λ (x : Option (List NameBinding)). IteratorDone n x iter.NextOne draft d o (with_item label n d rest))
      (sym there) (refl, ap (λ (xs : List NameBinding). with_item label n d xs) puts.2))
      (body_written o a.body draft written body (refl, puts.0, puts.1)) flag (if_written a.body (AlwaysFits o) body)
  batch_done (Some m) left rest puts body flag there =
      let o = outcome.Done (result.NextN (take puts.count left)) in
      iterator_done o
      (subst (λ (x : Option (List NameBinding)). IteratorDone n x (iter.NextN m) draft d o (with_item label n d rest))
      (sym there)
      (record {
        count = puts.count;
        batch = puts.batch;
        content = refl;
        kept = ap (λ (xs : List NameBinding). with_item label n d xs) puts.rest_is;
        some = puts.some;
      }))
      (body_written o a.body draft written body (refl, puts.bytes, puts.order)) flag
      (if_written a.body (AlwaysFits o) body)

  from_batch : (m : Option ℕ) (left rest : List NameBinding) → item_of label n d ≡ Some left
      → GivesTo (batch_call m) left draft a written rest
      → Iterates n (batch_call m) draft d a written (with_item label n d rest)
  from_batch m left rest there (gives puts body flag) = batch_done m left rest puts body flag there
  from_batch m left rest there (batch_no_memory wants same) =
      iterator_no_memory wants
      (ap (λ (xs : List NameBinding). with_item label n d xs) same ∙ item_kept label n d left there)

  -- of an iterator that has these left
  pub batch_iterates : (trader : List ℕ) (m : Option ℕ) (left rest : List NameBinding) → trader ≡ label
      → item_of trader n d ≡ Some left → GivesTo (batch_call m) left draft a written rest
      → Iterates n (batch_call m) draft d a written (with_item trader n d rest)
  batch_iterates trader m left rest same there h =
      let found : item_of label n d ≡ Some left =
      subst (λ (x : List ℕ). item_of x n d ≡ Some left) same there in
      subst (λ (x : List ℕ). Iterates n (batch_call m) draft d a written (with_item x n d rest)) (sym same)
      (from_batch m left rest found h)

  -- of one that isn't there
  from_none : (i : IteratorCall) → item_of label n d ≡ None → a.body ≡ Outcome (system ObjectNotExist)
      → a.accepted ≡ false → Iterates n i draft d a written d
  from_none i there body flag =
      iterator_done (system ObjectNotExist)
      (subst (λ (x : Option (List NameBinding)). IteratorDone n x i draft d (system ObjectNotExist) d) (sym there)
      (refl, refl))
      (body_in_reply (system ObjectNotExist) a.body draft written body) flag
      (if_content a.body (AlwaysFits (system ObjectNotExist)) (system_fits ObjectNotExist))

  pub gone_iterates : (trader : List ℕ) (i : IteratorCall) (o : NameOutcome) → trader ≡ label → item_of trader n d ≡ None
      → o ≡ system ObjectNotExist → a.body ≡ Outcome o → a.accepted ≡ false → Iterates n i draft d a written d
  gone_iterates trader i o same there is body flag =
      from_none i (subst (λ (x : List ℕ). item_of x n d ≡ None) same there)
      (body ∙ ap (λ (x : NameOutcome). Outcome x) is) flag

  pub unkept_iterates : (i : IteratorCall) (e : IteratorList) (b : Bool) (o : NameOutcome) → b ≡ is_kept n d → b ≡ false → e ≡ d
      → o ≡ system ObjectNotExist → a.body ≡ Outcome o → a.accepted ≡ false → Iterates n i draft d a written e
  unkept_iterates i e b o kept no_ same is body flag =
      subst (λ (x : IteratorList). Iterates n i draft d a written x) (sym same)
      (from_none i (dead_item label n d (sym kept ∙ no_)) (body ∙ ap (λ (x : NameOutcome). Outcome x) is) flag)

  -- one that is taken away
  from_kept : is_kept n d ≡ true → a.body ≡ Outcome (outcome.Done result.Nothing) → a.accepted ≡ false
      → Iterates n iter.Destroy draft d a written (without_item label n d)
  from_kept there body flag =
      let o = outcome.Done result.Nothing in
      iterator_done o
      (live_item label n d (λ (x : Option (List NameBinding)). IteratorDone n x iter.Destroy draft d o (without_item label n d))
      (λ x. (refl, refl)) there)
      (body_in_reply o a.body draft written body) flag (if_content a.body (AlwaysFits o) nothing_fits)

  pub destroy_iterates : (trader : List ℕ) (m e : IteratorList) (b : Bool) → trader ≡ label → b ≡ is_kept n d → b ≡ true → m ≡ d
      → e ≡ without_item trader n m → a.body ≡ Outcome (outcome.Done result.Nothing) → a.accepted ≡ false
      → Iterates n iter.Destroy draft d a written e
  destroy_iterates trader m e b label_is kept yes_ same gone body flag =
      subst (λ (x : IteratorList). Iterates n iter.Destroy draft d a written x)
      (sym (gone ∙ ap (λ (x : List ℕ). without_item x n m) label_is ∙ ap (λ (x : IteratorList). without_item label n x) same))
      (from_kept (sym kept ∙ yes_) body flag)

-- nothing is passed of nothing
pub drop_none : (xs : List NameBinding) → length xs ≤ 0 → xs ≡ drop 1 xs
drop_none [] h = refl
drop_none (x ∷ xs) h = absurd (let no : ⊥ = omega (arith, h) in no)

-- ---- what is written of bindings

-- the first binding of what is left
first_at : (left : List NameBinding) → slice_get left 0 ≡ first_of left
first_at [] = refl
first_at (b ∷ bs) = refl

pub puts_one : (first : Option NameBinding) (left rest : List NameBinding) (old new : Draft)
    → first ≡ slice_get left 0 → new.bytes ≡ old.bytes ++ next_one_piece first old.order (length old.bytes)
    → new.order ≡ old.order → rest ≡ drop 1 left → PutsBindings iter.NextOne left old new rest
puts_one first left rest old new is bytes order same = (
  bytes ∙ ap (λ (b : Option NameBinding). old.bytes ++ next_one_piece b old.order (length old.bytes)) (is ∙ first_at left),
  order,
  same,
)

-- what is less than all has something before it
dropped-some : {X : Type 0} (k : ℕ) (left rest : List X) → rest ≡ drop k left → length rest < length left → 0 < k
dropped-some zero left rest e less =
    let same = ap length e in absurd (let no : ⊥ = omega (arith, same, less) in no)
dropped-some (suc k) left rest e less = omega arith

abbrev short_all : List NameBinding → Type 0
short_all xs = AreShort binding.format.writes xs

pub puts_some : (n : ℕ) (left rest : List NameBinding) (old new : Draft) (more : Bool)
    → GivesBatch next_head left n rest old new more → new.order ≡ old.order
    → (short_all left → 0 < n → 0 < length left → length rest < length left) → PutsBindings (iter.NextN n) left old new rest
puts_some n left rest old new more g order some = record {
  count = g.count;
  batch = g.puts.is_batch;
  bytes = g.puts.bytes;
  order = order;
  rest_is = g.rest_is;
  some = λ short asked there. dropped-some g.count left rest g.rest_is (some short asked there);
}

-- ---- calls

module _ (others : List NameChange → Type 0) where
  -- an outcome that is still to be written can be told, or taken back
  abbrev Back : Scene → NameOutcome → Bool → Scene → Type 0
  Back s o flag t = AlwaysFits o ⊎ AnswersNoMemory others s no_memory flag t

  -- nothing was done, and NO_MEMORY is told
  idle : (s t : Scene) (flag : Bool) → Idles others s.names t.names → t.desk ≡ s.desk → flag ≡ false
      → AnswersNoMemory others s no_memory flag t
  idle s t flag names desk is = record { content = refl; idles = names; desk = desk; is = is }

  no_memory_invokes : (j : Judged) (draft : Draft) (s : Scene) (a : Answer) (written : Draft) (t : Scene)
      → IsOutOfMemory a → Idles others s.names t.names → t.desk ≡ s.desk → Invokes others j draft s a written t
  no_memory_invokes j draft s a written t wants names desk = record {
    outcome = no_memory;
    answers = inr (idle s t a.accepted names desk wants.1);
    body = body_in_reply no_memory a.body draft written wants.0;
    if_no_memory = if_content a.body (Back s no_memory a.accepted t) (inl (system_fits NoMemory));
  }

  -- with an outcome for which there is always room
  plain_invokes : (j : Judged) (draft : Draft) (s : Scene) (o : NameOutcome) (a : Answer) (written : Draft) (t : Scene)
      → a.body ≡ Outcome o → AlwaysFits o → OutcomeOfRequest others j draft s o a.accepted t
      → Invokes others j draft s a written t
  plain_invokes j draft s o a written t body fits comes = record {
    outcome = o;
    answers = inl comes;
    body = body_in_reply o a.body draft written body;
    if_no_memory = if_content a.body (Back s o a.accepted t) (inl fits);
  }

  -- ---- of contexts

  unowned : (seen u : View) (n : ℕ) (x : NameAct) (r : NameAnswer) (flag : Bool)
      → u ≡ cond flag (with_own seen (change_at (store_seen seen) n x)) seen → flag ≡ false → u ≡ seen
  unowned seen u n x r flag is e = is ∙ ap (λ (b : Bool). cond b (with_own seen (change_at (store_seen seen) n x)) seen) e

  -- a call that is no accepted change changed nothing
  pub idle_act : (v u : View) (n : ℕ) (x : NameAct) (r : NameAnswer) → NamingActs others v n x r u → is_accepted x r ≡ false
      → Meanwhile others v u
  idle_act v u n x r h flag =
      subst (λ (y : View). Meanwhile others v y) (sym (unowned h.seen u n x r (is_accepted x r) h.after flag)) h.meanwhile

  act_back : (v u : View) (d : IteratorList) (n : ℕ) (x : NameAct) (r : NameAnswer) (flag : Bool) → NamingActs others v n x r u
      → flag ≡ is_accepted x r → (flag ≡ true → AlwaysFits (outcome_of r))
      → AlwaysFits (outcome_of r) ⊎ AnswersNoMemory others (scene v d) no_memory flag (scene u d)
  act_back v u d n x r flag h is fits = elim (cases_Bool flag) [
    | inl yes_ ↦ inl (fits yes_)
    | inr no_ ↦ inr (idle (scene v d) (scene u d) flag (inr (idle_act v u n x r h (sym is ∙ no_))) refl no_)
  ]

  -- there is always room for the reply of a change
  pub act_done_so : (home : Home) (v u : View) (n : ℕ) (x : NameAct) (r : NameAnswer) (a : Answer) (o : NameOutcome)
      (change : Bool) → home ≡ v.home → IsAddress home → NamingActs others v n x r u → o ≡ outcome_of r
      → change ≡ is_change x → a.body ≡ Outcome o → a.accepted ≡ (change && not (is_refusal r)) → ActsTo others n x v a u
  act_done_so home v u n x r a o change is address acts content changes body flag =
      let same : a.accepted ≡ is_accepted x r = flag ∙ ap (λ (b : Bool). b && not (is_refusal r)) changes in
      act_done r acts (body ∙ ap (λ (y : NameOutcome). Outcome y) content) same
      (λ yes_. accepted_fits others v u n x r (subst IsAddress is address) acts (sym same ∙ yes_))

  act_performs_at : (key : NameKey) (x : NameAct) (draft : Draft) (v : View) (d : IteratorList) (a : Answer) (written : Draft)
      (u : View) → ActsTo others (context_in key) x v a u
      → Invokes others (Call key (call.Act x)) draft (scene v d) a written (scene u d)
  act_performs_at key x draft v d a written u (act_done r acts body flag fits) = record {
    outcome = outcome_of r;
    answers = inl (record { answer = r; acts = acts; content = refl; is = flag; desk = refl });
    body = body_in_reply (outcome_of r) a.body draft written body;
    if_no_memory =
        if_content a.body (Back (scene v d) (outcome_of r) a.accepted (scene u d))
        (act_back v u d (context_in key) x r a.accepted acts flag fits);
  }
  act_performs_at key x draft v d a written u (act_no_memory meanwhile wants) =
      no_memory_invokes (Call key (call.Act x)) draft (scene v d) a written (scene u d) wants (inr meanwhile) refl

  pub act_invokes : (key : NameKey) (n : ℕ) (x : NameAct) (draft : Draft) (v : View) (d : IteratorList) (a : Answer)
      (written : Draft) (u : View) → n ≡ context_in key → ActsTo others n x v a u
      → Invokes others (Call key (call.Act x)) draft (scene v d) a written (scene u d)
  act_invokes key n x draft v d a written u is h =
      act_performs_at key x draft v d a written u (subst (λ (y : ℕ). ActsTo others y x v a u) is h)

  module _ (n m : ℕ) (draft : Draft) (v u : View) (d : IteratorList) where
    content_lists : (bs : List NameBinding) (iterator : Ior) (e : IteratorList) (a : Answer) (written : Draft)
        → NamingActs others v n act.List (Done (reply.Bindings bs)) u → iterator ≡ iterator_reference v.home d.1
        → CutsTo iterator bs m draft d a written e → Lists others n m draft (scene v d) a written (scene u e)
    content_lists bs iterator e a written acts is c =
        let own = iterator_reference v.home d.1 in
        let x : CutsTo own bs m draft d a written e =
        subst (λ (r : Ior). CutsTo r bs m draft d a written e) is c in
        let o = outcome.Done (result.List (take x.count bs) (given_or_nil own (is_nonempty (drop x.count bs)))) in
        record {
          outcome = o;
          comes =
              record {
                answer = Done (reply.Bindings bs);
                acts = acts;
                cuts = record { count = x.count; batch = x.batch; content = refl; kept = x.kept; some = x.some };
              };
          body = body_written o a.body draft written x.body (refl, x.bytes, x.order);
          accepted = x.accepted;
          if_no_memory = if_written a.body (AnswersNoMemory others (scene v d) no_memory false (scene u e)) x.body;
        }

    -- or memory ran out to tell it
    pub cut_lists : (bs : List NameBinding) (iterator : Ior) (e : IteratorList) (written : Draft) (r : Result Answer OutOfMemory)
        → NamingActs others v n act.List (Done (reply.Bindings bs)) u → iterator ≡ iterator_reference v.home d.1
        → IfOk r (λ a. CutsTo iterator bs m draft d a written e)
        → IfOk r (λ a. Lists others n m draft (scene v d) a written (scene u e))
    cut_lists bs iterator e written (Ok a) acts is c = content_lists bs iterator e a written acts is c
    cut_lists bs iterator e written (Err w) acts is c = tt

  list_performs_at : (key : NameKey) (n : ℕ) (draft : Draft) (s : Scene) (a : Answer) (written : Draft) (t : Scene)
      → ListsOrWants others (context_in key) n draft s a written t
      → Invokes others (Call key (call.List n)) draft s a written t
  list_performs_at key n draft s a written t (lists l) = record {
    outcome = l.outcome;
    answers = inl (l.comes, l.accepted);
    body = l.body;
    if_no_memory =
        if_other a.body (AnswersNoMemory others s no_memory false t) (Back s l.outcome a.accepted t)
        (λ (u : AnswersNoMemory others s no_memory false t). inr
        (subst (λ (b : Bool). AnswersNoMemory others s no_memory b t) (sym l.accepted) u)) l.if_no_memory;
  }
  list_performs_at key n draft s a written t (list_no_memory wants u) =
      no_memory_invokes (Call key (call.List n)) draft s a written t wants u.idles u.desk

  pub list_invokes : (key : NameKey) (c n : ℕ) (draft : Draft) (s : Scene) (a : Answer) (written : Draft) (t : Scene)
      → c ≡ context_in key → ListsOrWants others c n draft s a written t
      → Invokes others (Call key (call.List n)) draft s a written t
  list_invokes key c n draft s a written t is h =
      list_performs_at key n draft s a written t (subst (λ (y : ℕ). ListsOrWants others y n draft s a written t) is h)

  -- ---- of iterators

  iterator_performs_at : (key : NameKey) (i : IteratorCall) (draft : Draft) (v : View) (d : IteratorList) (a : Answer)
      (written : Draft) (e : IteratorList) → Iterates (iterator_in key) i draft d a written e
      → Invokes others (Call key (call.Iterator i)) draft (scene v d) a written (scene v e)
  iterator_performs_at key i draft v d a written e (iterator_done o h body flag fits) = record {
    outcome = o;
    answers = inl (h, refl, flag);
    body = body;
    if_no_memory =
        if_other a.body (AlwaysFits o) (Back (scene v d) o a.accepted (scene v e)) (λ (f : AlwaysFits o). inl f) fits;
  }
  iterator_performs_at key i draft v d a written e (iterator_no_memory wants same) =
      no_memory_invokes (Call key (call.Iterator i)) draft (scene v d) a written (scene v e) wants (inl refl) same

  pub iterator_invokes : (key : NameKey) (n : ℕ) (i : IteratorCall) (draft : Draft) (v : View) (d : IteratorList) (a : Answer)
      (written : Draft) (e : IteratorList) → n ≡ iterator_in key → Iterates n i draft d a written e
      → Invokes others (Call key (call.Iterator i)) draft (scene v d) a written (scene v e)
  iterator_invokes key n i draft v d a written e is h =
      iterator_performs_at key i draft v d a written e
      (subst (λ (y : ℕ). Iterates y i draft d a written e) is h)

  -- ---- of all objects

  is_a_performs_at : (key : NameKey) (id : List ℕ) (draft : Draft) (s : Scene) (a : Answer) (written : Draft)
      → TellsTruth (is_a (kind_of key) id) a → Invokes others (Call key (call.IsA id)) draft s a written s
  is_a_performs_at key id draft s a written h =
      let truth = is_a (kind_of key) id in
      plain_invokes (Call key (call.IsA id)) draft s (outcome.Done (result.Truth truth)) a written s h.0
      (truth_fits truth) (refl, refl, h.1)

  pub is_a_invokes : (key : NameKey) (kind : NameKind) (id : List ℕ) (draft : Draft) (s : Scene) (a : Answer)
      (written : Draft) → kind ≡ kind_of key → TellsTruth (is_a kind id) a
      → Invokes others (Call key (call.IsA id)) draft s a written s
  is_a_invokes key kind id draft s a written is h =
      is_a_performs_at key id draft s a written (subst (λ (k : NameKind). TellsTruth (is_a k id) a) is h)

  pub non_existent_invokes : (key : NameKey) (draft : Draft) (s : Scene) (a : Answer) (written : Draft)
      → TellsTruth false a → Invokes others (Call key call.NonExistent) draft s a written s
  non_existent_invokes key draft s a written h =
      plain_invokes (Call key call.NonExistent) draft s (outcome.Done (result.Truth false)) a written s h.0
      (truth_fits false) (refl, refl, h.1)

  -- ---- a Request that spells no call, and one whose reply can't be begun

  module _ (to : ReplyTo) (s : Scene) (a : Answer) (written : Draft) where
    abbrev begun_draft : Draft
    begun_draft = record { bytes = reply_start to.order to.minor to.id 0; order = to.order; room = 0 }

    pub refused_performed : (k : SystemKind) (minor : ℕ) → a.body ≡ Outcome (refusal_outcome k minor) → a.accepted ≡ false
        → InvokesInto others to (Refused k minor) s a written s
    refused_performed k minor body flag = record {
      draft = begun_draft;
      begun = record { bytes = refl; is_in = refl };
      invokes =
          plain_invokes (Refused k minor) begun_draft s (refusal_outcome k minor) a written s body (refused_fits k minor)
          (refl, refl, flag);
    }

    pub no_memory_invoked : (j : Judged) → IsOutOfMemory a → InvokesInto others to j s a written s
    no_memory_invoked j wants = record {
      draft = begun_draft;
      begun = record { bytes = refl; is_in = refl };
      invokes = no_memory_invokes j begun_draft s a written s wants (inl refl) refl;
    }
