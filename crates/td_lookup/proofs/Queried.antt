-- What a query is answered with.
use Rattle.std.proofs.Common.{◌≡◌, inl, inr, ℕ, false, true, List, [], ◌++◌, length, map, min, Result, Ok, Err, IfOk}
use Rattle.std.proofs.Common.{OnErr, refl, sym, ap, subst, ◌∙◌}
use Rattle.td_cdr.specs.Marks.{Marks}
use Rattle.td_cdr.specs.Writing.{Draft}
use Rattle.td_cdr.specs.declared.memory.Memory.{Memory as OutOfMemory}
use Rattle.td_fed.specs.Trails.{DrawsOn, Goes, IsShown, NeverFalls, marks_of, own_marks_at, points_of}
use Rattle.td_fed.specs.Visiting.{WalksTo, VisitedSoFar, WalksSoFar, course}
use Rattle.td_iter.specs.Desks.{Live}
use Rattle.td_lookup.specs.Choosing.{chosen}
use Rattle.td_lookup.specs.Querying.{QueryComes, first_offers}
use Rattle.td_lookup.specs.Scenes.{Scene}
use Rattle.td_lookup.specs.Answering.{IfOutcome, PutsFirst, AnswersQuery, GivesNoMemory, TellsVisit, TellsVisited}
use Rattle.td_lookup.specs.Answering.{walk_answer}
use Rattle.td_lookup.specs.NoMemory.{AnswersNoMemory, no_memory_outcome}
use Rattle.td_lookup.specs.NoMemory.{trace as of_trace}
use Rattle.td_ops.specs.declared.call.Call.TheVariants as call
use Rattle.td_ops.specs.declared.call.Query.{Query}
use Rattle.td_register.specs.declared.history.Accepted.{Accepted}
use Rattle.td_servant.specs.Answers.{AnswersWith}
use Rattle.td_servant.specs.declared.answer.Answer.{Answer}
use Rattle.td_servant.specs.declared.answer.ReplyBody.{ReplyBody}
use Rattle.td_servant.specs.declared.answer.ReplyBody.TheVariants.{Written}
use Rattle.td_servant.specs.declared.answer.ReplyBody.TheVariants as reply_body
use Rattle.td_servant.specs.declared.entry.Entry.TheVariants.{Walk}
use Rattle.td_servant.specs.declared.judging.Judged.TheVariants.{Call}
use Rattle.td_servant.specs.declared.objects.Object.{Object}
use Rattle.td_trader.specs.Worlds.{history_at, name_at}
use Rattle.td_value.specs.declared.structures.Offer.{Offer}
use Rattle.td_walk.specs.declared.answer.SubAnswer.{SubAnswer}
use Rattle.td_walk.specs.declared.trace.Address.{Address}
use Rattle.td_walk.specs.declared.trace.Trace.{Trace}
use Rattle.td_walk.specs.declared.trace.TraceItem.{TraceItem}
use Rattle.td_walk.specs.declared.trace.Visit.{Visit}
use Rattle.td_walk.specs.declared.trace.Visit.TheVariants as visit
use Rattle.td_query_walk.proofs.Counting.{counts-made}
use Rattle.td_query_walk.specs.Beginnings.{whole}
use Rattle.td_query_walk.specs.Faults.{CountsFaults}
use Rattle.td_query_walk.specs.Walks.{peer_answers}

-- ---- the offers of a visit

module _ (home : Address) (name : List ℕ) (q : Query) (a : SubAnswer) (max_list : ℕ) (old new : Draft) (d e : Live)
  where
    -- the first batch of the offers was written, each with the properties that are asked for
    pub parse_answer : (wanted : SubAnswer) (n : ℕ) → wanted.offers ≡ map (chosen q.desired) a.offers
        → wanted.limits ≡ a.limits → n ≡ min q.how_many max_list
        → PutsFirst home name n wanted.limits wanted.offers old new d e
        → TellsVisit home name q (visit.Answered a max_list) old d Written new e
    parse_answer wanted n offers limits least puts =
        let p : PutsFirst home name (min q.how_many max_list) a.limits (map (chosen q.desired) a.offers) old new d e =
        subst (λ (m : ℕ). PutsFirst home name m a.limits (map (chosen q.desired) a.offers) old new d e) least
        (subst (λ (ls : List (List ℕ)). PutsFirst home name n ls (map (chosen q.desired) a.offers) old new d e) limits
        (subst (λ (os : List Offer). PutsFirst home name n wanted.limits os old new d e) offers puts)) in
        record {
          outcome = first_offers home name d.1 a.limits (map (chosen q.desired) a.offers) p.count;
          content = record { count = p.count; batch = p.batch; outcome = refl; kept = p.kept; some = p.some };
          tells = (refl, p.bytes);
        }

-- ---- a query

module _ (others : List Accepted → Type 0) (later : Marks → Marks → Type 0) (home : Address) (x : Object) (k : ℕ)
    (q : Query) (s t : Scene) (trace : Trace) (at : x.trader ≡ k) where
  -- what a visit has done
  pub record Ran (before : List TraceItem) (visited : Result Visit OutOfMemory) : Type 0 where
    pub came : IfOk visited (λ v. WalksTo others later home (course s.world s.words s.peers.calls) k q before
        trace.items v (course t.world t.words t.peers.calls))
    pub so_far : OnErr visited (VisitedSoFar others later home (course s.world s.words s.peers.calls) k q before
        trace.items (course t.world t.words t.peers.calls))
    pub seen : IsShown s.world s.peers.calls before trace.items t.world t.peers.calls
    pub goes : Goes others later s.world t.world
    pub draws : DrawsOn s.words t.words
    pub faults : CountsFaults s.peers.calls t.peers.calls s.peers.faults t.peers.faults

  -- whatever the visit came to, its trace is the beginning of a walk
  so_far_of : (visited : Result Visit OutOfMemory) → Ran [] visited
      → WalksSoFar others later home (course s.world s.words s.peers.calls) k q trace.items
      (course t.world t.words t.peers.calls)
  so_far_of (Ok v) r =
      subst (λ (is : List TraceItem). WalksSoFar others later home (course s.world s.words s.peers.calls) k q is
      (course t.world t.words t.peers.calls)) (sym r.came.notes) (whole r.came.walk)
  so_far_of (Err m) r =
      subst (λ (is : List TraceItem). WalksSoFar others later home (course s.world s.words s.peers.calls) k q is
      (course t.world t.words t.peers.calls)) (sym r.so_far.notes) r.so_far.walk

  -- NO_MEMORY may stand in place of any answer that leaves the desk as it was
  retracted : (visited : Result Visit OutOfMemory) → Ran [] visited → t.desk ≡ s.desk
      → AnswersNoMemory others later home (Call x (call.Query q)) s (no_memory_outcome (Walk trace)) (Walk trace) t
  retracted visited r same = record {
    entry = of_trace trace;
    walk = subst (λ (n : ℕ). WalksSoFar others later home (course s.world s.words s.peers.calls) n q trace.items
        (course t.world t.words t.peers.calls)) (sym at) (so_far_of visited r);
    outcome = refl;
    desk = same;
    goes = r.goes;
    marks = λ j.
        subst (λ (is : List TraceItem). own_marks_at t.world j ≡ own_marks_at s.world j ++ marks_of j is)
        (sym r.seen.notes) (r.seen.marks j);
    points = λ j.
        subst (λ (is : List TraceItem). NeverFalls (length (history_at s.world j)) (points_of j is)
        (length (history_at t.world j))) (sym r.seen.notes) (r.seen.points j);
    peers = record {
      made = r.seen.made;
      calls = r.seen.calls_are;
      given = r.seen.asked ∙ ap (λ (is : List TraceItem). peer_answers is) (sym r.seen.notes);
      count =
          counts-made s.peers.calls t.peers.calls s.peers.faults t.peers.faults r.faults r.seen.made
          r.seen.calls_are;
    };
    draws = r.draws;
    words = λ (h : true ≡ false). absurd (let bad : ⊥ = cc in bad);
  }

  module _ (old new : Draft) where
    comes : (b : ReplyBody) (visited : Result Visit OutOfMemory) → Ran [] visited
        → TellsVisited home (name_at t.world k) q visited old s.desk b new t.desk
        → AnswersWith (λ o e. QueryComes others later home s k q old o e t) (record { body = b; entry = Walk trace }) old new
    comes b (Ok v) r h = record {
      outcome = h.outcome;
      comes = record {
        items = r.came.items;
        visit = v;
        walk = r.came.walk;
        faults = r.faults;
        answer = h.content;
        noted = ap (λ (is : List TraceItem). Walk (record { items = is })) r.came.notes;
      };
      content = h.tells;
    }
    comes b (Err m) r h = absurd h

    by_content : (content : Result ReplyBody OutOfMemory) (visited : Result Visit OutOfMemory) → Ran [] visited
        → IfOk content (λ b. TellsVisited home (name_at t.world k) q visited old s.desk b new t.desk)
        → OnErr content ((t.desk ≡ s.desk) × (new.bytes ≡ old.bytes))
        → AnswersQuery others later home x s k q old (walk_answer trace content) new t
    by_content (Ok b) visited r h bad = inl (comes b visited r h)
    by_content (Err m) visited r h bad = inr (record {
      outcome = no_memory_outcome (Walk trace);
      comes = retracted visited r bad.0;
      content = (refl, bad.1);
    })

    back : (content : Result ReplyBody OutOfMemory) (visited : Result Visit OutOfMemory) → Ran [] visited
        → IfOk content (λ b. IfOutcome b (t.desk ≡ s.desk)) → OnErr content ((t.desk ≡ s.desk) × (new.bytes ≡ old.bytes))
        → IfOutcome (walk_answer trace content).body
        (GivesNoMemory others later home (Call x (call.Query q)) s (walk_answer trace content).entry t)
    back (Ok (reply_body.Outcome o)) visited r h bad = retracted visited r h
    back (Ok reply_body.Written) visited r h bad = tt
    back (Err m) visited r h bad = retracted visited r bad.0

    pub parse_query : (content : Result ReplyBody OutOfMemory) (visited : Result Visit OutOfMemory) (before : List TraceItem)
        (name : List ℕ) (a : Answer) → Ran before visited → before ≡ [] → name ≡ name_at t.world k
        → IfOk content (λ b. TellsVisited home name q visited old s.desk b new t.desk)
        → OnErr content ((t.desk ≡ s.desk) × (new.bytes ≡ old.bytes)) → a ≡ walk_answer trace content
        → AnswersQuery others later home x s k q old a new t
    parse_query content visited before name a r none named h bad is =
        let now : IfOk content (λ b. TellsVisited home (name_at t.world k) q visited old s.desk b new t.desk) =
        subst (λ (n : List ℕ). IfOk content (λ b. TellsVisited home n q visited old s.desk b new t.desk)) named h in
        let ran : Ran [] visited = subst (λ (is : List TraceItem). Ran is visited) none r in
        subst (λ (y : Answer). AnswersQuery others later home x s k q old y new t) (sym is)
        (by_content content visited ran now bad)

    pub query_back : (content : Result ReplyBody OutOfMemory) (visited : Result Visit OutOfMemory) (before : List TraceItem)
        (a : Answer) → Ran before visited → before ≡ [] → IfOk content (λ b. IfOutcome b (t.desk ≡ s.desk))
        → OnErr content ((t.desk ≡ s.desk) × (new.bytes ≡ old.bytes)) → a ≡ walk_answer trace content
        → IfOutcome a.body (GivesNoMemory others later home (Call x (call.Query q)) s a.entry t)
    query_back content visited before a r none h bad is =
        let ran : Ran [] visited = subst (λ (is : List TraceItem). Ran is visited) none r in
        subst (λ (y : Answer). IfOutcome y.body (GivesNoMemory others later home (Call x (call.Query q)) s y.entry t))
        (sym is) (back content visited ran h bad)
