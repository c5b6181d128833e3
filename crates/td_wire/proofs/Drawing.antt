-- What a connection gave, as what a wire's read moved.
use Rattle.std.proofs.Common.{◌≡◌, ℕ, ◌+◌, ◌-◌, ◌<◌, ◌≤◌, min, List, [], ◌++◌, length, take, drop, sym, ap}
use Rattle.std.proofs.Common.{Option, Some, Ok, subst, ◌∙◌, arith}
use Rattle.std.proofs.lemmas.List.{take-append-drop, take-append-le, take-take, length-append, length-take, length-drop}
use Rattle.std.proofs.lemmas.List.{nil_from_length}
use Rattle.td_wire.specs.Connections.{Connection, Traffic, left_of, GivesFront, ReadsTraffic}
use Rattle.td_wire.specs.InMemory.{GaveBytes}

-- the first bytes of the room are the first ones that were left
front_given : (left before after : List ℕ) (n : ℕ) → n ≡ min (length left) (length before)
    → after ≡ take n left ++ drop n before → take n after ≡ take n left
front_given left before after n size filled =
    let room : n ≤ length (take n left) = rw length-take (omega (arith, size)) in
    ap (take n) filled ∙ take-append-le n (take n left) (drop n before) room ∙ take-take n n left (omega arith)

-- the room keeps its size
room_kept : (left before after : List ℕ) (n : ℕ) → n ≡ min (length left) (length before)
    → after ≡ take n left ++ drop n before → length after ≡ length before
room_kept left before after n size filled =
    let parts : length after ≡ min n (length left) + (length before - n) =
    ap length filled ∙ length-append (take n left) (drop n before) ∙ (simp (length-take, length-drop)) in
    omega (arith, parts, size)

pub gives_front : (t : Traffic) (n : ℕ) (new : Option Connection) (before after : List ℕ)
    → GaveBytes n t.current new before after → GivesFront (take n after) (Some t) (Some (record t { current = new }))
gives_front t n new before after g =
    let left : List ℕ = left_of t in
    let front : take n after ≡ take n left = front_given left before after n g.size g.filled in (
      drop n left,
      sym (ap (λ (x : List ℕ). x ++ drop n left) front ∙ take-append-drop n left),
      ap (λ (c : Option Connection). Some (record t { current = c })) g.moved,
    )

pub given_within : (t : Traffic) (n : ℕ) (new : Option Connection) (before after : List ℕ)
    → GaveBytes n t.current new before after → n ≤ length after
given_within t n new before after g =
    let kept : length after ≡ length before = room_kept (left_of t) before after n g.size g.filled in
    let size = g.size in omega (arith, kept, size)

-- none come into room only where none are left
pub none_left : (t : Traffic) (n : ℕ) (new : Option Connection) (before after : List ℕ)
    → GaveBytes n t.current new before after → n ≡ 0 → 0 < length after → left_of t ≡ []
none_left t n new before after g none room =
    let kept : length after ≡ length before = room_kept (left_of t) before after n g.size g.filled in
    let size = g.size in nil_from_length (left_of t) (omega (arith, kept, size, none, room))

pub drawn : {E : Type 0} (t now : Traffic) (n : ℕ) (new : Option Connection) (before after : List ℕ) → t ≡ now
    → GaveBytes n t.current new before after
    → ReadsTraffic {E = E} after (Some now) (Some (record t { current = new })) (Ok n)
drawn {E = E} t now n new before after e g =
    subst (λ (u : Traffic). ReadsTraffic {E = E} after (Some u) (Some (record t { current = new })) (Ok n)) e (record {
      bound = given_within t n new before after g;
      ok = gives_front t n new before after g;
      end = λ none room. none_left t n new before after g none room;
      err = tt;
    })

pub ruleset given = (gives_front, given_within, none_left)
