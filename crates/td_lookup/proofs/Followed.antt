-- What names of links are answered with.
use Rattle.std.proofs.Common.{◌≡◌, inl, inr, ℕ, ◌+◌, Bool, true, false, if◌then◌else◌, List, [], ◌∷◌, ◌++◌, length}
use Rattle.std.proofs.Common.{Option, None, Some, Result, Ok, Err, refl, sym, ap, subst, ◌∙◌, arith}
use Rattle.std.proofs.Common.{append-nil}
use Rattle.td_cdr.specs.Marks.{Marks}
use Rattle.td_typecode.specs.declared.reference.Ior.{Ior}
use Rattle.td_fed.proofs.Points.{goes-length}
use Rattle.td_fed.specs.Resolving.{ResolvesFrom, IsAskedFor, Resolves, followed, given, illegal, inside, named, outside}
use Rattle.td_fed.specs.Resolving.{ungiven, unknown}
use Rattle.td_fed.specs.Resolving.{no_memory_outcome as given_without_memory}
use Rattle.td_fed.specs.Trails.{DrawsOn, Goes, IsQuiet, NeverFalls, marks_of, own_marks_at, points_of}
use Rattle.td_fed.specs.declared.resolving.NameAnswer.{NameAnswer}
use Rattle.td_lookup.specs.Naming.{name_entry}
use Rattle.td_lookup.specs.Scenes.{Scene}
use Rattle.td_lookup.specs.Answering.{AnswersName, GivesNoMemory, no_memory_entry, name_answer, no_memory_with}
use Rattle.td_lookup.specs.Answering.{is_no_memory}
use Rattle.td_lookup.specs.NoMemory.{NoMemoryEntry, gave_in, items_of, no_memory_outcome}
use Rattle.td_lookup.specs.NoMemory.{name as of_name, nothing as of_nothing}
use Rattle.td_ops.specs.declared.call.Call.TheVariants as call
use Rattle.td_register.specs.declared.history.Accepted.{Accepted}
use Rattle.td_servant.specs.declared.answer.Answer.{Answer}
use Rattle.td_servant.specs.declared.answer.ReplyBody.TheVariants as reply_body
use Rattle.td_servant.specs.declared.entry.Entry.{Entry}
use Rattle.td_servant.specs.declared.entry.Entry.TheVariants.{Asked, Plain}
use Rattle.td_servant.specs.declared.judging.Judged.TheVariants.{Call}
use Rattle.td_servant.specs.declared.objects.Object.{Object}
use Rattle.td_trader.specs.Worlds.{View, history_at}
use Rattle.td_walk.specs.Peering.{Exchange, Failed, PeerAnswer, Referred}
use Rattle.td_walk.specs.declared.fault.PeerFault.{PeerFault}
use Rattle.td_walk.specs.declared.trace.Address.{Address}
use Rattle.td_walk.specs.declared.trace.TraceItem.{TraceItem}
use Rattle.td_query_walk.proofs.Counting.{counts-made}
use Rattle.td_query_walk.specs.Faults.{CountsFaults}
use Rattle.td_query_walk.specs.Walks.{given_in}

-- ---- what a register outside gave

abbrev pub gave_of : Option (Result Ior PeerFault) → List PeerAnswer
gave_of None = []
gave_of (Some (Ok r)) = Referred r ∷ []
gave_of (Some (Err f)) = Failed f ∷ []

-- these calls were made, and gave this
pub record Gave (asked : Option (Result Ior PeerFault)) (calls now : List Exchange) : Type 0 where
  pub made : List Exchange
  pub is : now ≡ calls ++ made
  pub given : given_in made ≡ gave_of asked

pub none_gave : (calls now : List Exchange) → now ≡ calls → Gave None calls now
none_gave calls now same = record { made = []; is = same ∙ sym (append-nil calls); given = refl }

asked_gave : {point : ℕ} {whole rest : List (List ℕ)} {register : Ior} {calls : List Exchange} {a : NameAnswer}
    {now : List Exchange} → IsAskedFor point whole rest register calls a now → Gave a.asked calls now
asked_gave (given r) = record { made = _; is = refl; given = refl }
asked_gave (given_without_memory r) = record { made = _; is = refl; given = refl }
asked_gave (ungiven f h) = record { made = _; is = refl; given = refl }

module _ (others : List Accepted → Type 0) (later : Marks → Marks → Type 0) (home : Address) where
  follow_gave : {whole : List (List ℕ)} (calls : List Exchange) {w : List View} {k : ℕ} {names : List (List ℕ)}
      {a : NameAnswer} {u : List View} {now : List Exchange}
      → ResolvesFrom others later home whole calls w k names a u now → Gave a.asked calls now
  follow_gave calls (unknown h) = none_gave calls calls refl
  follow_gave calls (named register h) = none_gave calls calls refl
  follow_gave calls (inside register n h i more) = follow_gave calls more
  follow_gave calls (outside register h i a) = asked_gave a

  pub resolves_gave : (w : List View) (calls : List Exchange) (k : ℕ) (names : List (List ℕ)) (a : NameAnswer)
      (u : List View) (now : List Exchange) → Resolves others later home w calls k names a u now
      → Gave a.asked calls now
  resolves_gave w calls k names a u now (illegal h) = none_gave calls calls refl
  resolves_gave w calls k names a u now (followed h f) = follow_gave calls f

-- ---- entries

gave_noted : (w : List View) (k point : ℕ) (asked : Option (Result Ior PeerFault))
    → gave_in (no_memory_entry w k (name_entry k point asked)) ≡ gave_of asked
gave_noted w k point None = refl
gave_noted w k point (Some (Ok r)) = refl
gave_noted w k point (Some (Err f)) = refl

no_items : (w : List View) (k point : ℕ) (asked : Option (Result Ior PeerFault))
    → items_of (no_memory_entry w k (name_entry k point asked)) ≡ []
no_items w k point None = refl
no_items w k point (Some gave) = refl

twice : (w : List View) (k point : ℕ) (asked : Option (Result Ior PeerFault))
    → no_memory_entry w k (no_memory_entry w k (name_entry k point asked)) ≡ no_memory_entry w k (name_entry k point asked)
twice w k point None = refl
twice w k point (Some gave) = refl

entry_no_memory : (w : List View) (x : Object) (names : List (List ℕ)) (k point : ℕ)
    (asked : Option (Result Ior PeerFault)) → x.trader ≡ k
    → NoMemoryEntry w (Call x (call.Resolve names)) (no_memory_entry w k (name_entry k point asked))
entry_no_memory w x names k point None h = of_nothing refl
entry_no_memory w x names k point (Some gave) h =
    subst (λ (j : ℕ). NoMemoryEntry w (Call x (call.Resolve names)) (Asked j (length (history_at w j)) gave)) h
    (of_name gave)

none_drawn : (words : ℕ → ℕ) → DrawsOn words words
none_drawn words = record { count = 0; rest = λ k. ap words (let e : k ≡ 0 + k = omega arith in e) }

-- ---- answers

module _ (others : List Accepted → Type 0) (later : Marks → Marks → Type 0) (home : Address) (x : Object) (k : ℕ)
    (names : List (List ℕ)) (s t : Scene) (at : x.trader ≡ k) (desk : t.desk ≡ s.desk) (words : t.words ≡ s.words)
    (goes : Goes others later s.world t.world) (quiet : IsQuiet s.world t.world)
    (faults : CountsFaults s.peers.calls t.peers.calls s.peers.faults t.peers.faults) where
  no_memory_name : (point : ℕ) (asked : Option (Result Ior PeerFault)) → Gave asked s.peers.calls t.peers.calls
      → GivesNoMemory others later home (Call x (call.Resolve names)) s (no_memory_entry t.world k (name_entry k point asked)) t
  no_memory_name point asked g = record {
    entry = entry_no_memory t.world x names k point asked at;
    walk = tt;
    outcome = refl;
    desk = desk;
    goes = goes;
    marks = λ j.
        quiet.own_marks j ∙ (sym (append-nil (own_marks_at s.world j))
        ∙ ap (λ is. own_marks_at s.world j ++ marks_of j is) (sym (no_items t.world k point asked)));
    points = λ j.
        subst (λ (is : List TraceItem). NeverFalls (length (history_at s.world j)) (points_of j is)
        (length (history_at t.world j))) (sym (no_items t.world k point asked)) (goes-length others later goes j);
    peers = record {
      made = g.made;
      calls = g.is;
      given = g.given ∙ sym (gave_noted t.world k point asked);
      count = counts-made s.peers.calls t.peers.calls s.peers.faults t.peers.faults faults g.made g.is;
    };
    draws = subst (λ (v : ℕ → ℕ). DrawsOn s.words v) (sym words) (none_drawn s.words);
    words = λ h. words;
  }

  content_by : (a : NameAnswer) (b : Bool) → is_no_memory a.outcome ≡ b
      → Resolves others later home s.world s.peers.calls k names a t.world t.peers.calls
      → AnswersName others later home x s k names
      (if b then no_memory_with (no_memory_entry t.world k (name_entry k a.point a.asked))
      else record { body = reply_body.Outcome a.outcome; entry = name_entry k a.point a.asked }) t
  content_by a true is r = inr (record {
    outcome = no_memory_outcome (no_memory_entry t.world k (name_entry k a.point a.asked));
    comes =
        no_memory_name a.point a.asked
        (resolves_gave others later home s.world s.peers.calls k names a t.world t.peers.calls r);
    content = refl;
  })
  content_by a false is r = inl (record {
    outcome = a.outcome;
    comes = (
      record {
        answer = a;
        resolves = r;
        faults = faults;
        outcome = refl;
        noted = refl;
        desk = desk;
        words = words;
      },
      is,
    );
    content = refl;
  })

  pub name_answered : (a : NameAnswer) (y : Answer) → y ≡ name_answer t.world k a
      → Resolves others later home s.world s.peers.calls k names a t.world t.peers.calls
      → AnswersName others later home x s k names y t
  name_answered a y is r =
      subst (λ (z : Answer). AnswersName others later home x s k names z t) (sym is)
      (content_by a (is_no_memory a.outcome) refl r)

  back_by : (a : NameAnswer) (b : Bool) → Gave a.asked s.peers.calls t.peers.calls
      → GivesNoMemory others later home (Call x (call.Resolve names)) s (no_memory_entry t.world k
      (if b then no_memory_with (no_memory_entry t.world k (name_entry k a.point a.asked))
      else record { body = reply_body.Outcome a.outcome; entry = name_entry k a.point a.asked }).entry) t
  back_by a true g =
      subst (λ (e : Entry). GivesNoMemory others later home (Call x (call.Resolve names)) s e t)
      (sym (twice t.world k a.point a.asked)) (no_memory_name a.point a.asked g)
  back_by a false g = no_memory_name a.point a.asked g

  pub name_back : (a : NameAnswer) (y : Answer) → y ≡ name_answer t.world k a
      → Resolves others later home s.world s.peers.calls k names a t.world t.peers.calls
      → GivesNoMemory others later home (Call x (call.Resolve names)) s (no_memory_entry t.world k y.entry) t
  name_back a y is r =
      subst (λ (z : Answer). GivesNoMemory others later home (Call x (call.Resolve names)) s (no_memory_entry t.world k z.entry) t)
      (sym is)
      (back_by a (is_no_memory a.outcome)
      (resolves_gave others later home s.world s.peers.calls k names a t.world t.peers.calls r))

  -- memory ran out before a peer gave anything
  pub nothing_answered : (y : Answer) → y ≡ no_memory_with Plain → t.peers.calls ≡ s.peers.calls
      → AnswersName others later home x s k names y t
  nothing_answered y is same =
      subst (λ (z : Answer). AnswersName others later home x s k names z t) (sym is)
      (inr (record {
        outcome = no_memory_outcome Plain;
        comes = no_memory_name 0 None (none_gave s.peers.calls t.peers.calls same);
        content = refl;
      }))

  pub nothing_back : (y : Answer) → y ≡ no_memory_with Plain → t.peers.calls ≡ s.peers.calls
      → GivesNoMemory others later home (Call x (call.Resolve names)) s (no_memory_entry t.world k y.entry) t
  nothing_back y is same =
      subst (λ (z : Answer). GivesNoMemory others later home (Call x (call.Resolve names)) s (no_memory_entry t.world k z.entry) t)
      (sym is) (no_memory_name 0 None (none_gave s.peers.calls t.peers.calls same))
