-- The calls of an Ask visit under one identifier: where it states none, they hang below the one search that makes it.
use Rattle.std.proofs.Common.{◌≡◌, ℕ, zero, suc, ◌<◌, ◌≤◌, List, slice_get, Option, Some, None, Bool, true, false}
use Rattle.std.proofs.Common.{refl}
use Rattle.std.proofs.Common.{sym, ◌∙◌, ap, subst, arith, ◌⊎◌, inl, inr}
use Rattle.td_typecode.specs.declared.reference.Ior.{Ior}
use Rattle.td_net.specs.declared.call.Call.{Call}
use Rattle.td_net.specs.declared.call.Delivery.{Delivery}
use Rattle.td_net_laws.proofs.Below.{asked-read, carried, identifier-stated}
use Rattle.td_net_laws.proofs.Rights.{CallerRight, Rights, visits_by}
use Rattle.td_net_laws.proofs.Waits.{Kids}
use Rattle.td_net_laws.specs.Arrivals.{HasReadPolicies, Nowhere, identifier_at, is_here, stated_identifier, way_of}
use Rattle.td_ops.specs.declared.call.Query.{Query}

three : (x y : ℕ) → (x < y) ⊎ ((y < x) ⊎ (x ≡ y))
three x y = grind arith

-- the identifier that a delivered call has
abbrev id_of : Call → Delivery → List ℕ
id_of k d = identifier_at d.seen.value k.query

-- a call that visits its trader can be read
visit-read : (k : Call) (d : Delivery) → visits_by k d ≡ true → HasReadPolicies k.query
visit-read k d visits =
    asked-read d.seen.value k.query
    (λ e. absurd (let bad : is_here Nowhere ≡ true = ap is_here (sym e) ∙ visits in cc))

module _ (calls : List Call) (inside : Ior → Option ℕ) (ws : List ℕ) (rights : Rights calls inside ws)
    (kids : Kids calls) where
  -- a call of the Ask r that can be read and states no identifier
  pub record Bare (r x : ℕ) (k : Call) : Type 0 where
    pub is : slice_get calls x ≡ Some k
    pub root : k.root ≡ r
    pub read : HasReadPolicies k.query
    pub none : stated_identifier k.query ≡ None

  -- who called it states none, and goes along a path
  record Above (r p : ℕ) : Type 0 where
    pub call : Call
    pub bare : Bare r p call
    pub delivery : Delivery
    pub delivered : call.delivery ≡ Some delivery
    pub path : visits_by call delivery ≡ false

  above : (r x p : ℕ) (k : Call) → Bare r x k → k.caller ≡ Some p → (p < x) × Above r p
  above r x p k b by =
      let c : CallerRight calls x k (Some p) = subst (λ z. CallerRight calls x k z) by (rights x k b.is).caller in
      let v : Bool = visits_by c.call c.delivery in
      let e : None ≡ carried v (stated_identifier c.call.query) (id_of c.call c.delivery) = sym
      b.none ∙ c.states b.read in
      let s = stated v (stated_identifier c.call.query) (id_of c.call c.delivery) e in (
        c.before,
        record {
          call = c.call;
          bare = record { is = c.is; root = c.root ∙ b.root; read = c.read; none = s.1 };
          delivery = c.delivery;
          delivered = c.delivered;
          path = s.0;
        },
      )
    where
      stated : (visits : Bool) (o : Option (List ℕ)) (id : List ℕ) → None ≡ carried visits o id
          → (visits ≡ false) × (o ≡ None)
      stated true o id e = absurd (cc)
      stated false o id e = (refl, sym e)

  -- a sub-call of x that states none
  record Child (r x y : ℕ) : Type 0 where
    pub place : ℕ
    pub call : Call
    pub bare : Bare r place call
    pub by : call.caller ≡ Some x
    pub within : place ≤ y

  -- of two such calls the later one hangs below the earlier one
  chain : (f r x y : ℕ) (kx ky : Call) → Bare r x kx → Bare r y ky → x < y → y < f → Child r x y
  chain zero r x y kx ky bx by lt far = absurd (omega arith)
  chain (suc f) r x y kx ky bx by lt far =
      go ky.caller refl (rights y ky by.is).caller (λ p kp bp. chain f r x p kx kp bx bp)
      (λ p kp bp. chain f r p x kp kx bp bx)
    where
      go : (o : Option ℕ) → ky.caller ≡ o → CallerRight calls y ky o
          → ((p : ℕ) (kp : Call) → Bare r p kp → x < p → p < f → Child r x p)
          → ((p : ℕ) (kp : Call) → Bare r p kp → p < x → x < f → Child r p x) → Child r x y
      go None e c up down =
          absurd (let o = (rights x kx bx.is).old in let rx = bx.root in let ry = by.root in omega arith)
      go (Some p) e c up down = by_place (three x p)
        where
          a : (p < y) × Above r p
          a = above r y p ky by e

          by_place : (x < p) ⊎ ((p < x) ⊎ (x ≡ p)) → Child r x y
          by_place (inl z) =
              let h = a.0 in
              let w = up p a.1.call a.1.bare z (omega arith) in
              let le = w.within in record {
                place = w.place;
                call = w.call;
                bare = w.bare;
                by = w.by;
                within =
                    omega arith;
              }
          by_place (inr (inl z)) =
              let w = down p a.1.call a.1.bare z (omega arith) in
              let same : w.place ≡ y =
              kids w.place y p w.call ky a.1.call a.1.delivery w.bare.is by.is a.1.bare.is w.by e a.1.delivered
              a.1.path in
              absurd (let le = w.within in omega arith)
          by_place (inr (inr z)) =
              record { place = y; call = ky; bare = by; by = e ∙ ap Some (sym z); within = omega arith }

  some_one : (u v : Delivery) → Some u ≡ Some v → u ≡ v
  some_one u v e = cc

  -- so only the last of them visits its trader
  apart : (r x y : ℕ) (kx ky : Call) (d : Delivery) → Bare r x kx → Bare r y ky → x < y → kx.delivery ≡ Some d
      → visits_by kx d ≡ true → ⊥
  apart r x y kx ky d bx by lt del visits =
      let w = chain (suc y) r x y kx ky bx by lt (omega arith) in
      let a = (above r w.place x w.call w.bare w.by).1 in
      let same : kx ≡ a.call = (let i = bx.is in let j = a.bare.is in cc) in
      let e : Some d ≡ Some a.delivery = sym del ∙ (ap (λ (z : Call). z.delivery) same ∙ a.delivered) in
      differ (sym visits ∙ (sees kx a.call d a.delivery same (some_one d a.delivery e) ∙ a.path))
    where
      sees : (j k : Call) (u v : Delivery) → j ≡ k → u ≡ v → visits_by j u ≡ visits_by k v
      sees j k u v same one = rw (same, one) refl

      differ : true ≡ false → ⊥
      differ e = absurd (cc)

  -- a visit that makes its identifier
  pub record Source (r : ℕ) (id : List ℕ) : Type 0 where
    pub place : ℕ
    pub call : Call
    pub bare : Bare r place call
    pub delivery : Delivery
    pub delivered : call.delivery ≡ Some delivery
    pub visits : visits_by call delivery ≡ true
    pub identifier : id ≡ id_of call delivery

  source-one : (r : ℕ) (i j : List ℕ) → Source r i → Source r j → i ≡ j
  source-one r i j a b = go (three a.place b.place)
    where
      sees : (j k : Call) (u v : Delivery) → j ≡ k → u ≡ v → id_of j u ≡ id_of k v
      sees j k u v same one = rw (same, one) refl

      go : (a.place < b.place) ⊎ ((b.place < a.place) ⊎ (a.place ≡ b.place)) → i ≡ j
      go (inl x) = absurd (apart r a.place b.place a.call b.call a.delivery a.bare b.bare x a.delivered a.visits)
      go (inr (inl x)) = absurd (apart r b.place a.place b.call a.call b.delivery b.bare a.bare x b.delivered
          b.visits)
      go (inr (inr x)) =
          let h : slice_get calls b.place ≡ Some a.call = subst (λ z. slice_get calls z ≡ Some a.call) x a.bare.is in
          let same : a.call ≡ b.call = (let g = b.bare.is in cc) in
          let e : Some a.delivery ≡ Some b.delivery =
          sym a.delivered ∙ (ap (λ (z : Call). z.delivery) same ∙ b.delivered) in
          a.identifier
          ∙ (sees a.call b.call a.delivery b.delivery same (some_one a.delivery b.delivery e) ∙ sym b.identifier)

  -- a call below states what that visit made
  source : (f r y : ℕ) (id : List ℕ) (k : Call) → slice_get calls y ≡ Some k → k.root ≡ r → HasReadPolicies k.query
      → stated_identifier k.query ≡ Some id
      → ((a : Call) → slice_get calls r ≡ Some a → stated_identifier a.query ≡ None) → y < f → Source r id
  source zero r y id k is root read stated bare far = absurd (omega arith)
  source (suc f) r y id k is root read stated bare far =
      go k.caller refl (rights y k is).caller
      (λ p i kp isp rootp readp statedp lt. source f r p i kp isp rootp readp statedp bare lt)
    where
      go : (o : Option ℕ) → k.caller ≡ o → CallerRight calls y k o
          → ((p : ℕ) (i : List ℕ) (kp : Call) → slice_get calls p ≡ Some kp → kp.root ≡ r → HasReadPolicies kp.query
          → stated_identifier kp.query ≡ Some i → p < f → Source r i) → Source r id
      go None e c up =
          absurd (let here : slice_get calls r ≡ Some k =
          subst (λ z. slice_get calls z ≡ Some k) (sym c ∙ root) is in
          let bad : None ≡ Some id = sym (bare k here) ∙ stated in cc)
      go (Some p) e c up =
          by_visit (visits_by c.call c.delivery) refl (stated_identifier c.call.query) refl
          (sym stated ∙ c.states read)
        where
          root_p : c.call.root ≡ r
          root_p = c.root ∙ root

          some_id : (a b : List ℕ) → Some a ≡ Some b → a ≡ b
          some_id a b e = cc

          by_visit : (b : Bool) → visits_by c.call c.delivery ≡ b → (o : Option (List ℕ))
              → stated_identifier c.call.query ≡ o
              → Some id ≡ carried (visits_by c.call c.delivery) (stated_identifier c.call.query)
              (id_of c.call c.delivery)
              → Source r id
          by_visit true b None o h =
              let h2 : Some id ≡ carried true (stated_identifier c.call.query) (id_of c.call c.delivery) =
              subst (λ z. Some id ≡ carried z (stated_identifier c.call.query) (id_of c.call c.delivery)) b h in
              record {
                place = p;
                call = c.call;
                bare = record { is = c.is; root = root_p; read = c.read; none = o };
                delivery = c.delivery;
                delivered = c.delivered;
                visits = b;
                identifier = some_id id (id_of c.call c.delivery) h2;
              }
          by_visit true b (Some i) o h =
              let h2 : Some id ≡ carried true (stated_identifier c.call.query) (id_of c.call c.delivery) =
              subst (λ z. Some id ≡ carried z (stated_identifier c.call.query) (id_of c.call c.delivery)) b h in
              let named : id_of c.call c.delivery ≡ i = identifier-stated c.delivery.seen.value c.call.query i o in
              let same : i ≡ id = sym (some_id id (id_of c.call c.delivery) h2 ∙ named) in
              subst (Source r) same (up p i c.call c.is root_p c.read o (let lt = c.before in omega arith))
          by_visit false b o oe h =
              let h2 : Some id ≡ stated_identifier c.call.query =
              subst (λ z. Some id ≡ carried z (stated_identifier c.call.query) (id_of c.call c.delivery)) b h in
              up p id c.call c.is root_p c.read (sym h2) (let lt = c.before in omega arith)

  source-of : (r x : ℕ) (k : Call) (d : Delivery) → slice_get calls x ≡ Some k → k.root ≡ r → k.delivery ≡ Some d
      → visits_by k d ≡ true → ((a : Call) → slice_get calls r ≡ Some a → stated_identifier a.query ≡ None)
      → Source r (id_of k d)
  source-of r x k d is root del visits bare = go (stated_identifier k.query) refl
    where
      read : HasReadPolicies k.query
      read = visit-read k d visits

      go : (o : Option (List ℕ)) → stated_identifier k.query ≡ o → Source r (id_of k d)
      go None e = record {
        place = x;
        call = k;
        bare = record { is = is; root = root; read = read; none = e };
        delivery = d;
        delivered = del;
        visits = visits;
        identifier = refl;
      }
      go (Some i) e =
          let named : id_of k d ≡ i = identifier-stated d.seen.value k.query i e in
          subst (Source r) (sym named) (source (suc x) r x i k is root read e bare (omega arith))

  -- all calls of an Ask that states none visit under one identifier
  pub one-made : (r x y : ℕ) (kx ky : Call) (d e : Delivery) → slice_get calls x ≡ Some kx
      → slice_get calls y ≡ Some ky
      → kx.root ≡ r → ky.root ≡ r → kx.delivery ≡ Some d → ky.delivery ≡ Some e → visits_by kx d ≡ true
      → visits_by ky e ≡ true → ((a : Call) → slice_get calls r ≡ Some a → stated_identifier a.query ≡ None)
      → id_of kx d ≡ id_of ky e
  one-made r x y kx ky d e isx isy rx ry dx dy px py bare =
      source-one r (id_of kx d) (id_of ky e) (source-of r x kx d isx rx dx px bare)
      (source-of r y ky e isy ry dy py bare)

  -- and where it states one, under that
  pub one-stated : (r x : ℕ) (k a : Call) (d : Delivery) (id : List ℕ) → slice_get calls x ≡ Some k → k.root ≡ r
      → k.delivery ≡ Some d → visits_by k d ≡ true → slice_get calls r ≡ Some a → stated_identifier a.query ≡ Some id
      → id_of k d ≡ id
  one-stated r x k a d id is root del visits there stated =
      let o = (rights x k is).root in
      let same : o.call ≡ a =
      (let i : slice_get calls r ≡ Some o.call = subst (λ z. slice_get calls z ≡ Some o.call) root o.is in cc) in
      identifier-stated d.seen.value k.query id
      (o.identifier (visit-read k d visits) id (ap (λ (z : Call). stated_identifier z.query) same ∙ stated))
