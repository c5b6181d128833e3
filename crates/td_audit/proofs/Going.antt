-- The calls of an Ask, and the traders that are asked, one after the other.
use Rattle.std.proofs.Common.{◌≡◌, ℕ, suc, ◌+◌, false, true, List, [], ◌∷◌, ◌++◌, length, map, Some, None, refl, sym}
use Rattle.std.proofs.Common.{Result, Ok, Err, OnOk, ap, subst, ◌∙◌, append_assoc, append-nil, ◌<◌, get_or, drop}
use Rattle.std.proofs.Common.{drop-cons, add-one}
use Rattle.td_cdr.specs.Lawful.{AreOctets}
use Rattle.td_cdr.specs.Names.{trader_name}
use Rattle.td_cdr.specs.declared.memory.Memory.{Memory as OutOfMemory}
use Rattle.td_drill.specs.Drills.{drill_query}
use Rattle.td_net.specs.Supplies.{without_zeros}
use Rattle.td_net.specs.Worlds.{World, start, state_at, visit_at}
use Rattle.td_net.specs.declared.call.Call.{Call}
use Rattle.td_net.specs.declared.event.CallState.{CallState}
use Rattle.td_net.specs.declared.event.CallState.TheVariants as state
use Rattle.td_net.specs.declared.event.Event.TheVariants as event
use Rattle.td_trader.specs.PlainTraders.{PlainTrader}
use Rattle.td_walk.specs.declared.trace.Address.{Address}
use Rattle.td_walk.specs.declared.trace.Visit.{Visit}
use Rattle.td_audit.specs.Auditing.{names_of}
use Rattle.td_audit.specs.Following.{AsksOne, FollowsTo, ResumesCall, PutsReply}
use Rattle.td_audit.specs.Making.{AcceptsEvent, QueriesTraders, RunsCalls, IsLog, Next, ask_line, ended, goes}
use Rattle.td_audit.specs.Making.{innermost_call, inward}
use Rattle.td_audit.specs.Making.{text_of_lines, more, next_in, none, passes, reply_line, request_to}

-- the call that a call waits for
pub inner-step : (m n : ℕ) (calls : List Call) (c sub : ℕ) → m ≡ suc n → state_at calls c ≡ Some (state.Waiting sub)
    → innermost_call m calls c ≡ innermost_call n calls sub
inner-step m n calls c sub e is =
    ap (λ (k : ℕ). innermost_call k calls c) e ∙ ap (inward (innermost_call n calls) c) is

-- an event that was told, and is accepted
pub goes-by : (w u : World) (c : ℕ) (s : CallState) (next : Next) (old new : List ℕ) (r : Result (Unit {0}) OutOfMemory)
    → state_at w.calls c ≡ Some s → next_in c (Some s) ≡ Some next → new ≡ old ++ next.line ++ 10 ∷ []
    → OnOk r (AcceptsEvent w next.event u) → OnOk r (ResumesCall w c old new u)
goes-by w u c s next old new (Ok x) at is content a =
    record { next = next; is = ap (next_in c) at ∙ is; accepts = a; content = content }
goes-by w u c s next old new (Err f) at is content a = tt

-- what ends a line, in two pieces
pub ends-line : (old line end : List ℕ) → (old ++ line) ++ (end ++ 10 ∷ []) ≡ old ++ (line ++ end) ++ 10 ∷ []
ends-line old line end =
    sym (append_assoc (old ++ line) end (10 ∷ []))
    ∙ ap (λ (t : List ℕ). t ++ 10 ∷ []) (append_assoc old line end)

-- What follows from here follows from the begin.
abbrev pub Ahead : (root : ℕ) → World → (text : List ℕ) → World → (text0 : List ℕ) → Type 0
Ahead root w text w0 text0 =
    (new : List ℕ) (u : World) → FollowsTo root w text new u → FollowsTo root w0 text0 new u

pub ahead-on : (root : ℕ) (w u w0 : World) (text next text0 : List ℕ) → visit_at w.calls root ≡ None
    → ResumesCall w (innermost_call (length w.calls) w.calls root) text next u → Ahead root w text w0 text0
    → Ahead root u next w0 text0
ahead-on root w u w0 text next text0 waits g ahead new x f =
    ahead new x (record {
      lines = g.next.line ∷ f.lines;
      visit = f.visit;
      follows = goes g.next waits g.is g.accepts f.follows;
      content =
          f.content ∙ ap (λ (t : List ℕ). t ++ text_of_lines f.lines) g.content
          ∙ behind text g.next.line (text_of_lines f.lines);
    }) where
      behind : (a b c : List ℕ) → ((a ++ b) ++ 10 ∷ []) ++ c ≡ a ++ (b ++ 10 ∷ c)
      behind a b c = append_assoc (a ++ b) (10 ∷ []) c ∙ append_assoc a b (10 ∷ c)

pub ahead-over : (root : ℕ) (w w0 : World) (text text0 : List ℕ) (v : Visit) → visit_at w.calls root ≡ Some v
    → Ahead root w text w0 text0 → FollowsTo root w0 text0 text w
ahead-over root w w0 text text0 v is ahead =
    ahead text w (record { lines = []; visit = v; follows = ended is; content = sym (append-nil text) })

-- an Ask that was followed has ended
pub follows-ends : {root : ℕ} {w u : World} {lines : List (List ℕ)} {v : Visit} → RunsCalls root w lines v u
    → visit_at u.calls root ≡ Some v
follows-ends (ended is) = is
follows-ends (goes next waits is accepts f) = follows-ends f

-- ---- the traders

again : (a b c : List ℕ) → (a ++ 10 ∷ b) ++ c ≡ a ++ 10 ∷ (b ++ c)
again a b c = append_assoc a (10 ∷ b) c

content-append : (a b : List (List ℕ)) → text_of_lines (a ++ b) ≡ text_of_lines a ++ text_of_lines b
content-append [] b = refl
content-append (line ∷ a) b =
    ap (λ (t : List ℕ). line ++ 10 ∷ t) (content-append a b) ∙ sym (again line (text_of_lines a) (text_of_lines b))

-- behind the lines of a trader those of the others
content-on : (ask : List ℕ) (lines : List (List ℕ)) (reply : List ℕ) (others : List (List ℕ))
    → text_of_lines (ask ∷ lines ++ reply ∷ others) ≡ text_of_lines (ask ∷ lines ++ reply ∷ []) ++ text_of_lines others
content-on ask lines reply others =
    ap text_of_lines (sym (append_assoc (ask ∷ lines) (reply ∷ []) others))
    ∙ content-append (ask ∷ lines ++ reply ∷ []) others

joins : (old ask lines reply : List ℕ)
    → ((((old ++ ask) ++ 10 ∷ []) ++ lines) ++ reply) ++ 10 ∷ []
    ≡ old ++ (ask ++ 10 ∷ (lines ++ (reply ++ 10 ∷ [])))
joins old ask lines reply = simp append_assoc

-- a trader that was asked, with the reply behind the lines of its calls
pub asks-by : (home : Address) (n : ℕ) (name : List ℕ) (w u x : World) (old asked content new : List ℕ)
    (r : Result (Unit {0}) OutOfMemory) → asked ≡ old ++ ask_line name ++ 10 ∷ [] → AreOctets (request_to name)
    → AcceptsEvent w (event.Ask n drill_query) u → (f : FollowsTo (length w.calls) u asked content x)
    → OnOk r (PutsReply home name (length w.calls) f.visit content new) → OnOk r (AsksOne home n name w old new x)
asks-by home n name w u x old asked content new (Ok y) a octets accepts f p = record {
  asked = u;
  lines = f.lines;
  visit = f.visit;
  outcome = p.outcome;
  request = octets;
  accepts = accepts;
  follows = f.follows;
  answers = p.answers;
  octets = p.octets;
  content = joined;
} where
  reply : List ℕ
  reply = reply_line (length w.calls) p.outcome

  joined : new ≡ old ++ text_of_lines (ask_line name ∷ f.lines ++ reply ∷ [])
  joined =
      p.content
      ∙ (ap (λ (t : List ℕ). (t ++ reply) ++ 10 ∷ []) (f.content ∙ ap (λ (t : List ℕ). t ++ text_of_lines f.lines) a)
      ∙ (joins old (ask_line name) (text_of_lines f.lines) reply
      ∙ ap (λ (t : List ℕ). old ++ (ask_line name ++ 10 ∷ t)) (sym (content-append f.lines (reply ∷ [])))))
asks-by home n name w u x old asked content new (Err e) a octets accepts f p = tt

-- with what is told of those that are left it is the log
abbrev pub AheadAll : List PlainTrader → Address → World → (n : ℕ) → (names : List (List ℕ)) → (text : List ℕ) → Type 0
AheadAll traders home w n names text =
    (lines : List (List ℕ)) (y : World) → QueriesTraders home w n names lines y → IsLog traders home (text ++ text_of_lines lines)

pub all-none : (traders : List PlainTrader) (home : Address)
    → AheadAll traders home (start traders home []) 0 (map (λ (t : PlainTrader). t.name) traders) []
all-none traders home lines y a = record { lines = lines; later = y; asked = a; content = refl }

-- the network before it is asked
pub all-init : (traders given seen : List PlainTrader) (home : Address) (w : World) (words : List ℕ)
    (names : List (List ℕ)) (text : List ℕ) → given ≡ traders → seen ≡ traders → words ≡ []
    → w ≡ start given home (without_zeros words) → names ≡ names_of seen → text ≡ []
    → AheadAll traders home w 0 names text
all-init traders given seen home w words names text g s wordless is named e =
    let begun : w ≡ start traders home [] =
    is ∙ (ap (λ (ts : List PlainTrader). start ts home (without_zeros words)) g
    ∙ ap (λ (ws : List ℕ). start traders home (without_zeros ws)) wordless) in
    let all : names ≡ map (λ (t : PlainTrader). t.name) traders = named ∙ ap names_of s in
    subst (λ (u : World). AheadAll traders home u 0 names text) (sym begun)
    (subst (λ (ns : List (List ℕ)). AheadAll traders home (start traders home []) 0 ns text) (sym all)
    (subst
    (λ (t : List ℕ). AheadAll traders home (start traders home []) 0 (map (λ (t : PlainTrader). t.name) traders) t)
    (sym e) (all-none traders home)))

-- the name of the next
pub name-next : (names : List (List ℕ)) (i : ℕ) (name : List ℕ) → i < length names → name ≡ get_or names i name
    → drop i names ≡ name ∷ drop (i + 1) names
name-next names i name h e = rw add-one (drop-cons names i name h ∙ ap (λ (x : List ℕ). x ∷ drop (suc i) names) (sym e))

pub all-passed : (traders : List PlainTrader) (home : Address) (w : World) (n : ℕ) (name : List ℕ)
    (names : List (List ℕ)) (text : List ℕ) → trader_name name ≡ false
    → AheadAll traders home w n (name ∷ names) text → AheadAll traders home w (n + 1) names text
all-passed traders home w n name names text e ahead lines y a = ahead lines y (passes e a)

pub all-more : (traders : List PlainTrader) (home : Address) (w x : World) (n : ℕ) (name : List ℕ)
    (names : List (List ℕ)) (text new : List ℕ) → trader_name name ≡ true → AsksOne home n name w text new x
    → AheadAll traders home w n (name ∷ names) text → AheadAll traders home x (n + 1) names new
all-more traders home w x n name names text new e o ahead lines y a =
    let reply = reply_line (length w.calls) o.outcome in
    subst (λ (t : List ℕ). IsLog traders home t)
    (ap (λ (t : List ℕ). text ++ t) (content-on (ask_line name) o.lines reply lines)
    ∙ (sym (append_assoc text (text_of_lines (ask_line name ∷ o.lines ++ reply ∷ [])) (text_of_lines lines))
    ∙ ap (λ (t : List ℕ). t ++ text_of_lines lines) (sym o.content)))
    (ahead (ask_line name ∷ o.lines ++ reply ∷ lines) y
    (more o.outcome e o.request o.accepts o.follows o.answers o.octets a))

pub all-over : (traders : List PlainTrader) (home : Address) (w : World) (n : ℕ) (text : List ℕ)
    → AheadAll traders home w n [] text → IsLog traders home text
all-over traders home w n text ahead =
    subst (λ (t : List ℕ). IsLog traders home t) (append-nil text) (ahead [] w none)
