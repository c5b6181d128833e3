-- What the names of links lead to, step by step.
use Rattle.std.proofs.Common.{◌≡◌, ℕ, ◌+◌, ◌<◌, Bool, true, false, cond, ◌&&◌, List, [], ◌∷◌, ◌++◌, length}
use Rattle.std.proofs.Common.{Option, None, Some, Result, Ok, Err, IfOk, inl, inr, refl, sym, ap, subst}
use Rattle.std.proofs.Common.{◌∙◌}
use Rattle.std.proofs.Common.{arith}
use Rattle.std.proofs.Common.{length-set, nat_eq, nat_le}
use Rattle.std.proofs.lemmas.Bool.{eqb-true, lt-leb}
use Rattle.std.specs.List.{list_all}
use Rattle.td_cdr.specs.Marks.{Marks}
use Rattle.td_cdr.specs.Names.{word_name}
use Rattle.td_cdr.specs.declared.memory.Memory.{Memory as OutOfMemory}
use Rattle.td_changes.specs.Applying.{seen}
use Rattle.td_admin.specs.Links.{describe_link}
use Rattle.td_typecode.specs.declared.reference.Ior.{Ior}
use Rattle.td_exceptions.specs.declared.exception.UserException.{UserException}
use Rattle.td_exceptions.specs.declared.exception.UserException.TheVariants.{UnknownLinkName, UnknownTraderName}
use Rattle.td_exceptions.specs.declared.exception.UserException.TheVariants.{IllegalLinkName, IllegalTraderName}
use Rattle.td_fed.specs.Resolving.{ResolvesFrom, IsAskedFor, IsReferenceGiven, IsUngiven, LeadsInside, LooksUp}
use Rattle.td_fed.specs.Resolving.{Resolves}
use Rattle.td_fed.specs.Resolving.{followed, given, illegal, inside, is_path, most_names, named}
use Rattle.td_fed.specs.Resolving.{outside, register_of_link}
use Rattle.td_fed.specs.Resolving.{register_in_outcome, unfound, ungiven, unknown, no_memory_outcome, with_outcome}
use Rattle.td_targets.specs.Targets.{register_inside}
use Rattle.td_fed.specs.declared.resolving.NameAnswer.{NameAnswer}
use Rattle.td_ops.specs.declared.call.Look.TheVariants as look
use Rattle.td_ops.specs.declared.outcome.Outcome.{Outcome}
use Rattle.td_ops.specs.declared.outcome.Outcome.TheVariants.{Done, User}
use Rattle.td_ops.specs.declared.outcome.Reply.TheVariants as reply
use Rattle.td_ops.specs.declared.outcome.SystemKind.TheVariants.{NoMemory}
use Rattle.td_register.specs.Causes.{raise, system, tells, there}
use Rattle.td_register.specs.Stores.{Store}
use Rattle.td_register.specs.declared.history.Accepted.{Accepted}
use Rattle.td_store.specs.LinkLists.{link_of}
use Rattle.td_store.specs.Stores.{link_info_of}
use Rattle.td_store.specs.declared.record.LinkRecord.{LinkRecord}
use Rattle.td_trader.specs.Worlds.{LooksAtTrader, View, history_at, store_seen, with_view}
use Rattle.td_walk.specs.Peering.{Exchange, PeerAnswer, Failed, IsNoted, Referred, Resolving, exchange, is_memory}
use Rattle.td_walk.specs.declared.fault.PeerFault.{PeerFault}
use Rattle.td_walk.specs.declared.fault.PeerFault.TheVariants as fault
use Rattle.td_walk.specs.declared.trace.Address.{Address}

-- ---- names

both : (a b : Bool) → a && b ≡ true → (a ≡ true) × (b ≡ true)
both true b h = (refl, h)
both false b h = absurd (let bad : ⊥ = cc in bad)

pub all-words : (names : List (List ℕ)) → is_path names ≡ true → list_all word_name names ≡ true
all-words [] h = refl
all-words (name ∷ names) h =
    (both (nat_le (length (name ∷ names)) most_names) (list_all word_name (name ∷ names)) h).1

pub other-words : (names rest : List (List ℕ)) (name : List ℕ) → names ≡ name ∷ rest → list_all word_name names ≡ true
    → list_all word_name rest ≡ true
other-words names rest name is h =
    (both (word_name name) (list_all word_name rest)
    (subst (λ (ns : List (List ℕ)). list_all word_name ns ≡ true) is h)).1

pub none-left : (names : List (List ℕ)) → nat_eq (length names) 0 ≡ true → names ≡ []
none-left [] h = refl
none-left (name ∷ names) h = absurd (let e = eqb-true (length (name ∷ names)) 0 h in omega (arith, e))

pub too-many : (names : List (List ℕ)) → most_names < length names → false ≡ is_path names
too-many [] h = refl
too-many (name ∷ names) h =
    sym (ap (λ b. b && list_all word_name (name ∷ names)) (lt-leb (length (name ∷ names)) most_names h))

-- ---- a look at a link

content-there : (o : Option LinkRecord) (e : UserException)
    → register_in_outcome (tells (there o e) (λ l. reply.Link (link_info_of l))) ≡ register_of_link o
content-there None e = refl
content-there (Some l) e = refl

content-linked : (b : Bool) (o : Option LinkRecord) (e f : UserException) → b ≡ true
    → register_in_outcome (tells (cond b (there o e) (raise f)) (λ l. reply.Link (link_info_of l))) ≡ register_of_link o
content-linked true o e f h = content-there o e
content-linked false o e f h = absurd (let bad : ⊥ = cc in bad)

described : (s : Store) (name : List ℕ) → word_name name ≡ true
    → register_in_outcome (seen s (look.DescribeLink name)) ≡ register_of_link (link_of s.links name)
unfolding seen describe_link
described s name h =
    content-linked (word_name name) (link_of s.links name) (UnknownLinkName name) (IllegalLinkName name) h

-- ---- numbers of traders

-- the traders stay as many
pub as-many : (w u : List View) (k n : ℕ) (v : View) → u ≡ with_view w k v → n < length w → n < length u
as-many w u k n v is h =
    let e = ap (λ (t : List View). length t) is ∙ length-set w k v in omega (arith, e, h)

-- ---- a name that is looked up

module _ (others : List Accepted → Type 0) (later : Marks → Marks → Type 0) where
  looks-so : (w u : List View) (k : ℕ) (name : List ℕ) (a : Outcome × ℕ) → word_name name ≡ true
      → LooksAtTrader others later w k (look.DescribeLink name) a u → LooksUp others later w k name (register_in_outcome a.0) u
  looks-so w u k name a word h = record {
    seen = h.seen;
    meanwhile = h.meanwhile;
    content = ap (λ (x : Outcome × ℕ). register_in_outcome x.0) h.answer ∙ described (store_seen h.seen) name word;
    world = h.world;
  }

  pub looks-up : (w u : List View) (k : ℕ) (name : List ℕ) (a : Outcome × ℕ) (r : Option Ior) → word_name name ≡ true
      → LooksAtTrader others later w k (look.DescribeLink name) a u → r ≡ register_in_outcome a.0 → LooksUp others later w k name r u
  looks-up w u k name a r word h is =
      subst (λ (x : Option Ior). LooksUp others later w k name x u) (sym is) (looks-so w u k name a word h)

module _ (others : List Accepted → Type 0) (later : Marks → Marks → Type 0) (home : Address) (whole : List (List ℕ))
  where
    pub is-unknown : (calls : List Exchange) (w u : List View) (k : ℕ) (name : List ℕ) (rest : List (List ℕ))
        (point : ℕ) (a : NameAnswer) → LooksUp others later w k name None u → point ≡ length (history_at u k)
        → a ≡ record { point = point; asked = None; outcome = User (UnknownTraderName whole) }
        → ResolvesFrom others later home whole calls w k (name ∷ rest) a u calls
    is-unknown calls w u k name rest point a looks seen_at is =
        subst (λ (x : NameAnswer). ResolvesFrom others later home whole calls w k (name ∷ rest) x u calls)
        (sym (is ∙ ap (λ (p : ℕ). record {
          point = p;
          asked = None;
          outcome = User (UnknownTraderName whole);
        }) seen_at)) (unknown looks)

    pub is-named : (calls : List Exchange) (w u : List View) (k : ℕ) (name : List ℕ) (rest : List (List ℕ)) (point : ℕ)
        (register : Ior) → rest ≡ [] → LooksUp others later w k name (Some register) u → point ≡ length (history_at u k)
        → ResolvesFrom others later home whole calls w k (name ∷ rest)
        (record { point = point; asked = None; outcome = Done (reply.Reference register) }) u calls
    is-named calls w u k name rest point register none looks seen_at =
        subst (λ (ns : List (List ℕ)). ResolvesFrom others later home whole calls w k (name ∷ ns)
        (record { point = point; asked = None; outcome = Done (reply.Reference register) }) u calls) (sym none)
        (subst (λ (p : ℕ). ResolvesFrom others later home whole calls w k (name ∷ [])
        (record { point = p; asked = None; outcome = Done (reply.Reference register) }) u calls) (sym seen_at)
        (named register looks))

    pub is-outside : (calls now : List Exchange) (w u : List View) (k : ℕ) (name : List ℕ) (rest : List (List ℕ))
        (point : ℕ) (register : Ior) (a : NameAnswer) → 0 < length rest
        → LooksUp others later w k name (Some register) u
        → point ≡ length (history_at u k) → register_inside home u register ≡ None
        → IsAskedFor point whole rest register calls a now
        → ResolvesFrom others later home whole calls w k (name ∷ rest) a u now
    is-outside calls now w u k name [] point register a some looks seen_at gone asked = absurd (omega (arith, some))
    is-outside calls now w u k name (next ∷ rest) point register a some looks seen_at gone asked =
        outside register looks gone
        (subst (λ (p : ℕ). IsAskedFor p whole (next ∷ rest) register calls a now) seen_at asked)

    pub is-inside : (calls now : List Exchange) (w u v : List View) (k n : ℕ) (name : List ℕ) (rest : List (List ℕ))
        (point : ℕ) (a : NameAnswer) → LeadsInside others later home w k name point n u
        → ResolvesFrom others later home whole calls u n rest a v now
        → ResolvesFrom others later home whole calls w k (name ∷ rest)
        (record { point = point; asked = a.asked; outcome = a.outcome }) v now
    is-inside calls now w u v k n name rest point a leads follows =
        subst (λ (p : ℕ). ResolvesFrom others later home whole calls w k (name ∷ rest)
        (record { point = p; asked = a.asked; outcome = a.outcome }) v now) (sym leads.point_is)
        (inside leads.register n leads.looks leads.is_inside follows)

-- ---- a register outside

asked-by : (gives : Ior → PeerAnswer) (register : Ior) (rest : List (List ℕ)) (f : PeerFault) → is_memory f ≡ false
    → exchange gives (Resolving register rest) (Err f)
    ≡ record { call = Resolving register rest; gave = Failed f } ∷ []
asked-by gives register rest fault.Memory h = absurd (let bad : ⊥ = cc in bad)
asked-by gives register rest fault.Wire h = refl
asked-by gives register rest fault.Grammar h = refl
asked-by gives register rest fault.Exception h = refl

module _ (point : ℕ) (whole rest : List (List ℕ)) (register : Ior) (calls now : List Exchange) (faults later : ℕ) where
  pub was-given : (r : Ior) (a : NameAnswer)
      → IsNoted (λ x. Referred x) (Resolving register rest) calls now faults later (Ok r) → IsReferenceGiven point r a
      → IsAskedFor point whole rest register calls a now
  was-given r a noted (inl is) =
      subst (λ (x : NameAnswer). IsAskedFor point whole rest register calls x now) (sym is)
      (subst (IsAskedFor point whole rest register calls (with_outcome point r (Done (reply.Reference r))))
      (sym noted.calls) (given r))
  was-given r a noted (inr is) =
      subst (λ (x : NameAnswer). IsAskedFor point whole rest register calls x now) (sym is)
      (subst (IsAskedFor point whole rest register calls (with_outcome point r (system NoMemory)))
      (sym noted.calls) (no_memory_outcome r))

  pub was-ungiven : (f : PeerFault) (res : Result NameAnswer OutOfMemory)
      → IsNoted {X = Ior} (λ x. Referred x) (Resolving register rest) calls now faults later (Err f)
      → IsUngiven point f whole res → IfOk res (λ a. IsAskedFor point whole rest register calls a now)
  was-ungiven f (Ok a) noted h =
      subst (λ (x : NameAnswer). IsAskedFor point whole rest register calls x now) (sym h.1)
      (subst (IsAskedFor point whole rest register calls (unfound point f whole))
      (sym (noted.calls ∙ ap (λ t. calls ++ t) (asked-by (λ x. Referred x) register rest f h.0)))
      (ungiven f h.0))
  was-ungiven f (Err e) noted h = tt

-- ---- in all

module _ (others : List Accepted → Type 0) (later : Marks → Marks → Type 0) (home : Address) (w : List View)
    (calls : List Exchange) (k : ℕ) (name : List (List ℕ)) where
  pub illegal-if : (point : ℕ) (r : Result NameAnswer OutOfMemory) → is_path name ≡ false → point ≡ length (history_at w k)
      → IfOk r (λ a. a ≡ record { point = point; asked = None; outcome = User (IllegalTraderName name) })
      → IfOk r (λ a. Resolves others later home w calls k name a w calls)
  illegal-if point (Ok a) bad seen_at is =
      subst (λ (x : NameAnswer). Resolves others later home w calls k name x w calls)
      (sym (is ∙ ap (λ (p : ℕ). record {
        point = p;
        asked = None;
        outcome = User (IllegalTraderName name);
      }) seen_at)) (illegal bad)
  illegal-if point (Err e) bad seen_at is = tt

  pub followed-if : (u : List View) (now : List Exchange) (r : Result NameAnswer OutOfMemory) → is_path name ≡ true
      → IfOk r (λ a. ResolvesFrom others later home name calls w k name a u now)
      → IfOk r (λ a. Resolves others later home w calls k name a u now)
  followed-if u now (Ok a) good h = followed good h
  followed-if u now (Err e) good h = tt

  -- the names begin with this one
  pub follows-so : (whole names rest : List (List ℕ)) (one : List ℕ) (a : NameAnswer) (u : List View)
      (now : List Exchange) → names ≡ one ∷ rest → ResolvesFrom others later home whole calls w k (one ∷ rest) a u now
      → ResolvesFrom others later home whole calls w k names a u now
  follows-so whole names rest one a u now is h =
      subst (λ (ns : List (List ℕ)). ResolvesFrom others later home whole calls w k ns a u now) (sym is) h
