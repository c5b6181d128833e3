-- What stands behind each kind is read as without indirections.
use Rattle.std.specs.Prelude.{ℕ, ℤ, suc, ◌-◌, List, [], ◌∷◌, ◌++◌, length, map, Option, None, Ok}
use Rattle.std.proofs.Common.{◌≡◌, refl, sym, ap, subst, ◌∙◌, arith}
use Rattle.std.proofs.lemmas.List.{append-nil, map-append}
use Rattle.td_cdr.specs.Place.{At}
use Rattle.td_cdr.specs.Format.{◌>>=◌, array_format}
use Rattle.td_cdr.specs.Reading.{next_aligned}
use Rattle.td_cdr.specs.Sound.{Sound as Plain, ulong, text, sequence}
use Rattle.td_cdr.specs.declared.value_fault.ValueFault.{ValueFault}
use Rattle.td_cdr.specs.declared.value_fault.ValueFault.TheVariants as fault
use Rattle.td_typecode.specs.declared.code.TypeCode.{TypeCode, out-TypeCode}
use Rattle.td_typecode.specs.declared.code.TypeCode.TheVariants as code
use Rattle.td_typecode.specs.declared.code.TypeCode.TheOpen as c
use Rattle.td_typecode.specs.declared.code.Value.{Value}
use Rattle.td_typecode.specs.declared.code.Arm.{Arm}
use Rattle.td_typecode.specs.declared.code.Member.{Member}
use Rattle.td_typecode.specs.declared.kinds.CodeKind.{CodeKind}
use Rattle.td_typecode.specs.declared.kinds.CodeKind.TheVariants as kind
use Rattle.td_typecode.specs.declared.mode.Mode.{Mode}
use Rattle.td_typecode.specs.declared.mode.Mode.TheVariants.{Inner, Switch}
use Rattle.td_typecode.specs.Formats.{is_nonempty, nonempty_sequence}
use Rattle.td_typecode.specs.Kinds.{under}
use Rattle.td_typecode.specs.Labels.{Layer, labels, spelled_labels}
use Rattle.td_typecode.specs.Layers.{code-null, code-void, code-short, code-long, code-ushort, code-ulong, code-boolean}
use Rattle.td_typecode.specs.Layers.{code-char, code-octet, code-any, code-code, code-object, code-struct, code-union}
use Rattle.td_typecode.specs.Layers.{code-enum, code-str, code-sequence, code-array, code-alias, code-except}
use Rattle.td_typecode.specs.Layers.{code-longlong, code-ulonglong}
use Rattle.td_typecode.specs.Codes.{header, positive, head, member, arm_of, counted_arms, struct_code, except_code}
use Rattle.td_typecode.specs.Codes.{sequence_code, array_code, alias_code, union_code, parameters}
use Rattle.td_indirection.specs.States.{nodes, with_slots, inside_state, behind_state}
use Rattle.td_indirection.specs.Stateful.{Sound}
use Rattle.td_indirection.specs.Tables.{nodes-length}
use Rattle.td_indirection.specs.Choices.{array, sequence_with}
use Rattle.td_indirection.specs.Ulongs.{ulong-sized}
use Rattle.td_typecode.specs.Known.{MemberNode, ArmNode, Numbers, KnownNode, KnownState, KnownSlot, chain_under}
use Rattle.td_typecode.specs.GraphCodes.{node_labels, enum_parameters, nonempty, member_node, arm_node, struct_layer}
use Rattle.td_typecode.specs.GraphCodes.{except_layer}
use Rattle.td_typecode.specs.GraphCodes.{sequence_layer, array_layer, alias_layer, union_layer}
use Rattle.td_typecode.specs.GraphCodes.{counted_arms as graph_arms, parameters as graph_parameters}
use Rattle.td_typecode.specs.Extension.{PlainReading, StatefulReading, ReadsLike, ReadsAlike, MembersLaid, ArmsLaid}
use Rattle.td_typecode.specs.Extension.{member_item, arm_item, NodeOf, Laid, GrowsBy}
use Rattle.td_typecode.specs.Followed.{KeepsLinked, lift_on, made_on, then_on, within_on, lift-keeps, member_node-keeps}
use Rattle.td_typecode.specs.Followed.{arm_node-keeps, arms_behind-keeps}
use Rattle.td_typecode.specs.Extending.{made, pair_on, within, plain-extends, bind-extends, lifted-extends}
use Rattle.td_typecode.specs.Extending.{made-extends}
use Rattle.td_typecode.specs.Extending.{Both, pair-extends, Behind, behind-extends, within-extends, front-extends}
use Rattle.td_typecode.specs.Extending.{some-extends, IsSameAt, kept-extends, grown-none, grown-length, grown-twice}
use Rattle.td_typecode.specs.Extending.{ItemIn, ItemsIn, array-extends}
use Rattle.td_typecode.specs.Labelled.{labels-same}

-- a node, and what its table has grown by
abbrev pub NodeIn : ℕ → KnownState → TypeCode → Numbers → KnownState → Type 0
NodeIn levels s t v new =
    (more : List KnownSlot) × (new ≡ with_slots s more)
    × NodeOf (Laid levels) (out-TypeCode t) (length s.table) v more

node-in : (levels : ℕ) (s : KnownState) (t : TypeCode) (l : Layer) (v : Numbers) (new : KnownState)
    → out-TypeCode t ≡ l
    → (more : List KnownSlot) → new ≡ with_slots s more
    → NodeOf (Laid levels) l (length s.table) v more → NodeIn levels s t v new
node-in levels s t l v new e more g nd =
    (more, g, subst (λ (l : Layer). NodeOf (Laid levels) l (length s.table) v more) (sym e) nd)

-- no kind of inner TypeCode
leaf : {X : Type 0} (levels : ℕ) (f : X → TypeCode) (l : X → Layer) (g : X → Numbers)
    → ((x : X) → out-TypeCode (f x) ≡ l x)
    → (p : PlainReading X) (s : KnownState)
    → ((x : X) → NodeOf (Laid levels) (l x) (length s.table) (g x) [])
    → ReadsAlike (NodeIn levels s) s (made f p) (made_on g (lift_on p))
leaf levels f l g is p s k a =
    lifted-extends (NodeIn levels s) s (p a) (λ v. Ok (f v.0, v.1))
    (λ v. Ok ((g v.0.0, v.0.1), v.1))
    (λ v. (node-in levels s (f v.0) (l v.0) (g v.0) s (is v.0) [] (grown-none s) (k v.0), refl))

enclosed-extends : (levels : ℕ) (s : KnownState) (x : PlainReading TypeCode)
    (t : StatefulReading Numbers)
    → ((s : KnownState) → ReadsAlike (NodeIn levels s) s x t)
    → ReadsAlike (NodeIn levels s) s (within x) (within_on t)
enclosed-extends levels s x t k =
    within-extends (λ a. NodeIn levels (inside_state s (a.place - a.origin)))
    (NodeIn levels s) s x t (λ a. k (inside_state s (a.place - a.origin)))
    (λ a y z m r. (r.0, ap (behind_state s) r.1, r.2))

module _ (levels : ℕ) (p : Mode → Plain ValueFault TypeCode)
    (q : Mode → Option ℕ → Sound ValueFault KnownNode ℕ)
    (j : (mode : Mode) (chain : Option ℕ) (s : KnownState)
    → ReadsAlike (GrowsBy levels s) s (p mode).format.reads (q mode chain).format.reads)
    (l : (mode : Mode) (chain : Option ℕ) → KeepsLinked (q mode chain).format.reads) where
  alias-extends : (mode : Mode) (chain : Option ℕ) (own : ℕ) (s : KnownState)
      → ReadsAlike (NodeIn levels s) s (alias_code (p (under mode))).format.reads
      (alias_layer q mode chain own).format.reads
  alias-extends mode chain own s =
      let on = chain_under chain own in
      made-extends (Behind (λ _. GrowsBy levels s))
      (NodeIn levels s) s (λ v. code.Alias v.0.0 v.0.1 v.1) (λ v. c.Alias v.0.0 v.0.1 v.1)
      (pair_on header.format.reads (λ _. (p (under mode)).format.reads))
      (then_on (lift_on header.format.reads) (λ _. (q (under mode) on).format.reads))
      (behind-extends (λ _. GrowsBy levels s) s header.format.reads
      (λ _. (p (under mode)).format.reads) (λ _. (q (under mode) on).format.reads)
      (λ x. j (under mode) on s))
      (λ x z m r. node-in levels s (code.Alias x.0.0 x.0.1 x.1) (c.Alias x.0.0 x.0.1 x.1)
      (c.Alias z.0.0 z.0.1 z.1) m (code-alias x.0.0 x.0.1 x.1) r.1.0 r.1.1
      (named x.0 z.0 z.1 (length s.table) r.0 r.1.2, r.1.3))
    where
      a_node : List ℕ × List ℕ → ℕ → Numbers
      a_node h n = c.Alias h.0 h.1 n

      named : (h i : List ℕ × List ℕ) (k n : ℕ) → h ≡ i → k ≡ n → a_node i k ≡ a_node h n
      named h i k n e f = ap (λ (h : List ℕ × List ℕ). a_node h k) (sym e) ∙ ap (a_node h) f

  -- ---- members and arms

  abbrev MemberIn : KnownState → Member → MemberNode → KnownState → Type 0
  MemberIn = ItemIn (λ m. m.code) member_item (Laid levels)

  abbrev MembersIn : KnownState → List Member → List MemberNode → KnownState → Type 0
  MembersIn = ItemsIn (λ m. m.code) member_item (Laid levels)

  abbrev ArmIn : KnownState → Arm → ArmNode → KnownState → Type 0
  ArmIn = ItemIn (λ a. a.code) arm_item (Laid levels)

  abbrev ArmsIn : KnownState → List Arm → List ArmNode → KnownState → Type 0
  ArmsIn = ItemsIn (λ a. a.code) arm_item (Laid levels)

  member-extends : (s : KnownState)
      → ReadsAlike (MemberIn s) s (member (p Inner)).format.reads (member_node q).format.reads
  member-extends s a =
      front-extends (Behind (λ _. GrowsBy levels s)) (MemberIn s)
      (λ v. record { name = v.0; code = v.1 })
      (pair_on text.format.reads (λ _. (p Inner).format.reads) a)
      (then_on (lift_on text.format.reads) (λ _. (q Inner None).format.reads) s a)
      (behind-extends (λ _. GrowsBy levels s) s text.format.reads (λ _. (p Inner).format.reads)
      (λ _. (q Inner None).format.reads) (λ x. j Inner None s) a) (λ x z m r. (
        r.1.0,
        r.1.1,
        ap (λ (y : List ℕ). (y, z.1)) (sym r.0) ∙ ap (λ (k : ℕ). (x.0, k)) r.1.2,
        r.1.3,
      ))

  arm-extends : (label : Plain ValueFault Value) (s : KnownState)
      → ReadsAlike (ArmIn s) s (arm_of label (p Inner)).format.reads (arm_node q label).format.reads
  arm-extends label s a =
      front-extends (Behind (λ _. MemberIn s)) (ArmIn s)
      (λ v. record { label = v.0; name = v.1.name; code = v.1.code })
      (pair_on label.format.reads (λ _. (member (p Inner)).format.reads) a)
      (then_on (lift_on label.format.reads) (λ _. (member_node q).format.reads) s a)
      (behind-extends (λ _. MemberIn s) s label.format.reads (λ _. (member (p Inner)).format.reads)
      (λ _. (member_node q).format.reads) (λ x. member-extends s) a)
      (λ x z m r. (
        r.1.0,
        r.1.1,
        ap (λ (y : Value). (y, z.1)) (sym r.0) ∙ ap (λ (k : MemberNode). (x.0, k)) r.1.2,
        r.1.3,
      ))

  members-extend : (s : KnownState)
      → ReadsAlike (MembersIn s) s (sequence (member (p Inner))).format.reads
      (sequence_with ulong ulong-sized (member_node q)).format.reads
  members-extend s a =
      plain-extends (MembersIn s) (ulong.format.reads a)
      (λ n. (array_format (member (p Inner)).format n.0).reads n.1)
      (λ n. (array (member_node q) n.0).format.reads s n.1)
      (λ n. array-extends (λ m. m.code) member_item (Laid levels)
      (member (p Inner)).format (member_node q) member-extends (member_node-keeps q l) n.0 s n.1)

  some-same : (n : ℕ) (ms : List Member) (zs : List MemberNode) (slots : List KnownSlot)
      → MembersLaid (Laid levels) n ms zs slots → is_nonempty ms ≡ is_nonempty zs
  some-same n [] [] slots h = refl
  some-same n (m ∷ ms) (z ∷ zs) slots h = refl
  some-same n [] (z ∷ zs) slots h = absurd h
  some-same n (m ∷ ms) [] slots h = absurd h

  nonempty-extends : (s : KnownState)
      → ReadsAlike (MembersIn s) s (nonempty_sequence (member (p Inner))).format.reads
      (nonempty (sequence_with ulong ulong-sized (member_node q))).format.reads
  nonempty-extends s a =
      some-extends (MembersIn s) (fault.BadValue (next_aligned 4 a))
      ((sequence (member (p Inner))).format.reads a)
      ((sequence_with ulong ulong-sized (member_node q)).format.reads s a) (members-extend s a)
      (λ ms zs m r. some-same (length s.table) ms zs r.0 r.2)

  struct-extends : (s : KnownState)
      → ReadsAlike (NodeIn levels s) s (struct_code (p Inner)).format.reads
      (struct_layer q).format.reads
  struct-extends s =
      made-extends (Behind (λ _. MembersIn s))
      (NodeIn levels s) s (λ v. code.Struct v.0.0 v.0.1 v.1)
      (λ v. c.TypeCode::Struct v.0.0 v.0.1 v.1)
      (pair_on header.format.reads (λ _. (nonempty_sequence (member (p Inner))).format.reads))
      (then_on (lift_on header.format.reads)
      (λ _. (nonempty (sequence_with ulong ulong-sized (member_node q))).format.reads))
      (behind-extends (λ _. MembersIn s) s header.format.reads
      (λ _. (nonempty_sequence (member (p Inner))).format.reads)
      (λ _. (nonempty (sequence_with ulong ulong-sized (member_node q))).format.reads)
      (λ x. nonempty-extends s))
      (λ x z m r. node-in levels s (code.Struct x.0.0 x.0.1 x.1)
      (c.TypeCode::Struct x.0.0 x.0.1 x.1) (c.TypeCode::Struct z.0.0 z.0.1 z.1) m
      (code-struct x.0.0 x.0.1 x.1) r.1.0 r.1.1
      (z.1, ap (λ (h : List ℕ × List ℕ). c.TypeCode::Struct h.0 h.1 z.1) (sym r.0), r.1.2))

  except-extends : (s : KnownState)
      → ReadsAlike (NodeIn levels s) s (except_code (p Inner)).format.reads
      (except_layer q).format.reads
  except-extends s =
      made-extends (Behind (λ _. MembersIn s))
      (NodeIn levels s) s (λ v. code.Except v.0.0 v.0.1 v.1) (λ v. c.Except v.0.0 v.0.1 v.1)
      (pair_on header.format.reads (λ _. (sequence (member (p Inner))).format.reads))
      (then_on (lift_on header.format.reads)
      (λ _. (sequence_with ulong ulong-sized (member_node q)).format.reads))
      (behind-extends (λ _. MembersIn s) s header.format.reads
      (λ _. (sequence (member (p Inner))).format.reads)
      (λ _. (sequence_with ulong ulong-sized (member_node q)).format.reads) (λ x. members-extend s))
      (λ x z m r. node-in levels s (code.Except x.0.0 x.0.1 x.1) (c.Except x.0.0 x.0.1 x.1)
      (c.Except z.0.0 z.0.1 z.1) m (code-except x.0.0 x.0.1 x.1) r.1.0 r.1.1
      (z.1, ap (λ (h : List ℕ × List ℕ). c.Except h.0 h.1 z.1) (sym r.0), r.1.2))

  sequence-extends : (s : KnownState)
      → ReadsAlike (NodeIn levels s) s (sequence_code (p Inner)).format.reads
      (sequence_layer q).format.reads
  sequence-extends s =
      made-extends (Both (GrowsBy levels s) (λ x z m. IsSameAt m))
      (NodeIn levels s) s (λ v. code.Sequence v.0 v.1) (λ v. c.Sequence v.0 v.1)
      (pair_on (p Inner).format.reads (λ _. ulong.format.reads))
      (then_on (q Inner None).format.reads (λ _. lift_on ulong.format.reads))
      (pair-extends (GrowsBy levels s) (λ x z m. IsSameAt m) s (p Inner).format.reads
      (q Inner None).format.reads (λ _. ulong.format.reads) (λ _. lift_on ulong.format.reads)
      (j Inner None s) (λ x z m r. kept-extends m ulong.format.reads)
      (λ z. lift-keeps ulong.format.reads))
      (λ x z n r. node-in levels s (code.Sequence x.0 x.1) (c.Sequence x.0 x.1)
      (c.Sequence z.0 z.1) n (code-sequence x.0 x.1) r.1.0 (r.2.1 ∙ r.1.1) (
        ap (λ (k : ℕ). c.Sequence k z.1) r.1.2 ∙ ap (λ (k : ℕ). c.Sequence (length s.table) k)
            (sym r.2.0),
        r.1.3,
      ))

  array_code-extends : (s : KnownState)
      → ReadsAlike (NodeIn levels s) s (array_code (p Inner)).format.reads
      (array_layer q).format.reads
  array_code-extends s =
      made-extends (Both (GrowsBy levels s) (λ x z m. IsSameAt m))
      (NodeIn levels s) s (λ v. code.Array v.0 v.1) (λ v. c.Array v.0 v.1)
      (pair_on (p Inner).format.reads (λ _. positive.format.reads))
      (then_on (q Inner None).format.reads (λ _. lift_on positive.format.reads))
      (pair-extends (GrowsBy levels s) (λ x z m. IsSameAt m) s (p Inner).format.reads
      (q Inner None).format.reads (λ _. positive.format.reads) (λ _. lift_on positive.format.reads)
      (j Inner None s) (λ x z m r. kept-extends m positive.format.reads)
      (λ z. lift-keeps positive.format.reads))
      (λ x z n r. node-in levels s (code.Array x.0 x.1) (c.Array x.0 x.1)
      (c.Array z.0 z.1) n (code-array x.0 x.1) r.1.0 (r.2.1 ∙ r.1.1) (
        ap (λ (k : ℕ). c.Array k z.1) r.1.2 ∙ ap (λ (k : ℕ). c.Array (length s.table) k)
            (sym r.2.0),
        r.1.3,
      ))

  -- ---- unions

  abbrev labels_there : KnownState → ℕ → Plain ValueFault Value
  labels_there m n = node_labels (suc (length (nodes m))) (nodes m) n

  switched : (s m : KnownState) (t : TypeCode) (n : ℕ) → GrowsBy levels s t n m → labels_there m n
      ≡ spelled_labels levels t
  switched s m t n (more, e, is, w) =
      let known : List KnownSlot → List KnownNode = λ (xs : List KnownSlot). map (λ x. x.node) xs in
      let all : nodes m ≡ nodes s ++ (known more ++ []) =
      ap (λ (x : KnownState). nodes x) e ∙ map-append (λ (x : KnownSlot). x.node) s.table more
      ∙ ap (λ (x : List KnownNode). nodes s ++ x) (sym (append-nil (known more))) in
      let long = grown-length s m more e in
      let count = nodes-length m in
      ap (labels_there m) is
      ∙ labels-same levels t (length s.table) more w (nodes m) (nodes s) [] all (nodes-length s)
      (suc (length (nodes m))) (omega (arith, long, count))

  abbrev CountedIn : KnownState → ℤ × List Arm → ℤ × List ArmNode → KnownState → Type 0
  CountedIn m x z n = (x.0 ≡ z.0) × ArmsIn m x.1 z.1 n

  counted-extends : (t : TypeCode) (m : KnownState)
      → ReadsAlike (CountedIn m) m (counted_arms (arm_of (labels levels t) (p Inner))).format.reads
      (graph_arms q (spelled_labels levels t)).format.reads
  counted-extends t m a =
      let arm = (arm_of (labels levels t) (p Inner)).format in
      let other = arm_node q (spelled_labels levels t) in
      plain-extends (CountedIn m) (head.format.reads a)
      (λ h. (array_format arm h.0.1).reads h.1 >>= λ x. Ok ((h.0.0, x.0), x.1))
      (λ h. (array other h.0.1).format.reads m h.1 >>= λ x. Ok (((h.0.0, x.0.0), x.0.1), x.1))
      (λ h. bind-extends (ArmsIn m) (CountedIn m) ((array_format arm h.0.1).reads h.1)
      ((array other h.0.1).format.reads m h.1) (λ x. Ok ((h.0.0, x.0), x.1))
      (λ x. Ok (((h.0.0, x.0.0), x.0.1), x.1))
      (array-extends (λ a. a.code) arm_item (Laid levels) arm other
      (arm-extends (spelled_labels levels t)) (arm_node-keeps q l (spelled_labels levels t))
      h.0.1 m h.1) (λ x z n b r. ((refl, r), refl)) (λ v e. e))

  arms-extend : (s m : KnownState) (t : TypeCode) (n : ℕ) → GrowsBy levels s t n m
      → ReadsAlike (CountedIn m) m (counted_arms (arm_of (labels levels t) (p Inner))).format.reads
      (λ s. (graph_arms q (labels_there s n)).format.reads s)
  arms-extend s m t n g =
      subst (λ (k : Plain ValueFault Value). ReadsAlike (CountedIn m) m
      (counted_arms (arm_of (labels levels t) (p Inner))).format.reads
      (graph_arms q k).format.reads) (sym (switched s m t n g)) (counted-extends t m)

  abbrev union_node : (List ℕ × List ℕ) → ℕ → ℤ → List ArmNode → Numbers
  union_node h n d zs = c.TypeCode::Union h.0 h.1 n d zs

  union-joined : (s : KnownState) (x : ((List ℕ × List ℕ) × TypeCode) × (ℤ × List Arm))
      (z : ((List ℕ × List ℕ) × ℕ) × (ℤ × List ArmNode)) (n : KnownState)
      → Both (Behind (λ _. GrowsBy levels s)) (λ x z m. CountedIn m) x z n
      → NodeIn levels s (code.Union x.0.0.0 x.0.0.1 x.0.1 x.1.0 x.1.1)
      (union_node z.0.0 z.0.1 z.1.0 z.1.1) n
  union-joined s x z n (m, (h, (first, e, is, w)), (d, (rest, f, all))) =
      node-in levels s (code.Union x.0.0.0 x.0.0.1 x.0.1 x.1.0 x.1.1)
      (c.TypeCode::Union x.0.0.0 x.0.0.1 x.0.1 x.1.0 x.1.1) (union_node z.0.0 z.0.1 z.1.0 z.1.1) n
      (code-union x.0.0.0 x.0.0.1 x.0.1 x.1.0 x.1.1) (first ++ rest)
      (grown-twice s m n first rest e f) (
        z.1.1,
        first,
        rest,
        refl,
        ap (λ (h : List ℕ × List ℕ). union_node h z.0.1 z.1.0 z.1.1) (sym h)
            ∙ ap (λ (k : ℕ). union_node x.0.0 k z.1.0 z.1.1) is
            ∙ ap (λ (d : ℤ). union_node x.0.0 (length s.table) d z.1.1) (sym d),
        w,
        subst (λ (k : ℕ). ArmsLaid (Laid levels) k x.1.1 z.1.1 rest) (grown-length s m first e) all,
      )

  union-extends : (s : KnownState)
      → ReadsAlike (NodeIn levels s) s (union_code levels p).format.reads
      (union_layer q).format.reads
  union-extends s =
      made-extends (Both (Behind (λ _. GrowsBy levels s)) (λ x z m. CountedIn m))
      (NodeIn levels s) s (λ v. code.Union v.0.0.0 v.0.0.1 v.0.1 v.1.0 v.1.1)
      (λ v. c.TypeCode::Union v.0.0.0 v.0.0.1 v.0.1 v.1.0 v.1.1)
      (pair_on (pair_on header.format.reads (λ _. (p Switch).format.reads))
      (λ v. (counted_arms (arm_of (labels levels v.1) (p Inner))).format.reads))
      (then_on (then_on (lift_on header.format.reads) (λ _. (q Switch None).format.reads))
      (λ v s. (graph_arms q (labels_there s v.1)).format.reads s))
      (pair-extends (Behind (λ _. GrowsBy levels s))
      (λ x z m. CountedIn m) s (pair_on header.format.reads (λ _. (p Switch).format.reads))
      (then_on (lift_on header.format.reads) (λ _. (q Switch None).format.reads))
      (λ v. (counted_arms (arm_of (labels levels v.1) (p Inner))).format.reads)
      (λ v s. (graph_arms q (labels_there s v.1)).format.reads s)
      (behind-extends (λ _. GrowsBy levels s) s header.format.reads (λ _. (p Switch).format.reads)
      (λ _. (q Switch None).format.reads) (λ x. j Switch None s))
      (λ x z m r. arms-extend s m x.1 z.1 r.1) (λ z. arms_behind-keeps q l z.1)) (union-joined s)

  -- ---- each kind

  bare-extends : (t : TypeCode) (w : Layer) (v : Numbers) (s : KnownState) (a : At)
      → out-TypeCode t ≡ w
      → NodeOf (Laid levels) w (length s.table) v []
      → ReadsLike (NodeIn levels s) (Ok (t, a)) (Ok ((v, s), a))
  bare-extends t w v s a is k = (node-in levels s t w v s is [] (grown-none s) k, refl)

  pub parameters-extend : (mode : Mode) (chain : Option ℕ) (k : CodeKind) (s : KnownState)
      → ReadsAlike (NodeIn levels s) s (parameters levels p mode k).format.reads
      (graph_parameters q mode chain k).format.reads
  parameters-extend mode chain kind.Null s a = bare-extends code.Null c.Null c.Null s a code-null
      (refl, refl)
  parameters-extend mode chain kind.Void s a = bare-extends code.Void c.Void c.Void s a code-void
      (refl, refl)
  parameters-extend mode chain kind.Short s a =
      bare-extends code.Short c.TypeCode::Short c.TypeCode::Short s a code-short (refl, refl)
  parameters-extend mode chain kind.Long s a =
      bare-extends code.Long c.TypeCode::Long c.TypeCode::Long s a code-long (refl, refl)
  parameters-extend mode chain kind.UShort s a =
      bare-extends code.UShort c.TypeCode::UShort c.TypeCode::UShort s a code-ushort (refl, refl)
  parameters-extend mode chain kind.ULong s a =
      bare-extends code.ULong c.TypeCode::ULong c.TypeCode::ULong s a code-ulong (refl, refl)
  parameters-extend mode chain kind.Boolean s a =
      bare-extends code.Boolean c.TypeCode::Boolean c.TypeCode::Boolean s a code-boolean
      (refl, refl)
  parameters-extend mode chain kind.Char s a =
      bare-extends code.Char c.TypeCode::Char c.TypeCode::Char s a code-char (refl, refl)
  parameters-extend mode chain kind.Octet s a =
      bare-extends code.Octet c.TypeCode::Octet c.TypeCode::Octet s a code-octet (refl, refl)
  parameters-extend mode chain kind.AnyCode s a = bare-extends code.AnyCode c.AnyCode c.AnyCode s a
      code-any (refl, refl)
  parameters-extend mode chain kind.Code s a =
      bare-extends code.Code c.TypeCode::Code c.TypeCode::Code s a code-code (refl, refl)
  parameters-extend mode chain kind.LongLong s a =
      bare-extends code.LongLong c.TypeCode::LongLong c.TypeCode::LongLong s a code-longlong
      (refl, refl)
  parameters-extend mode chain kind.ULongLong s a =
      bare-extends code.ULongLong c.TypeCode::ULongLong c.TypeCode::ULongLong s a code-ulonglong
      (refl, refl)
  parameters-extend mode chain kind.Str s a =
      leaf levels (λ n. code.Str n) (λ n. c.TypeCode::Str n)
      (λ n. c.TypeCode::Str n) code-str ulong.format.reads s (λ n. (refl, refl)) a
  parameters-extend mode chain kind.ObjRef s a =
      enclosed-extends levels s (made (λ v. code.ObjRef v.0 v.1) header.format.reads)
      (made_on (λ v. c.TypeCode::ObjRef v.0 v.1) (lift_on header.format.reads))
      (λ s. leaf levels (λ v. code.ObjRef v.0 v.1) (λ v. c.TypeCode::ObjRef v.0 v.1)
      (λ v. c.TypeCode::ObjRef v.0 v.1) (λ v. code-object v.0 v.1) header.format.reads s
      (λ v. (refl, refl))) a
  parameters-extend mode chain kind.Enum s a =
      enclosed-extends levels s (made (λ v. code.Enum v.0.0 v.0.1 v.1) enum_parameters.format.reads)
      (made_on (λ v. c.TypeCode::Enum v.0.0 v.0.1 v.1) (lift_on enum_parameters.format.reads))
      (λ s. leaf levels (λ v. code.Enum v.0.0 v.0.1 v.1) (λ v. c.TypeCode::Enum v.0.0 v.0.1 v.1)
      (λ v. c.TypeCode::Enum v.0.0 v.0.1 v.1) (λ v. code-enum v.0.0 v.0.1 v.1)
      enum_parameters.format.reads s (λ v. (refl, refl))) a
  parameters-extend mode chain kind.Alias s a =
      let own = length (nodes s) - 1 in
      enclosed-extends levels s (alias_code (p (under mode))).format.reads
      (alias_layer q mode chain own).format.reads (alias-extends mode chain own) a
  parameters-extend mode chain kind.Struct s a =
      enclosed-extends levels s (struct_code (p Inner)).format.reads
      (struct_layer q).format.reads struct-extends a
  parameters-extend mode chain kind.Except s a =
      enclosed-extends levels s (except_code (p Inner)).format.reads
      (except_layer q).format.reads except-extends a
  parameters-extend mode chain kind.Union s a =
      enclosed-extends levels s (union_code levels p).format.reads
      (union_layer q).format.reads union-extends a
  parameters-extend mode chain kind.Sequence s a =
      enclosed-extends levels s (sequence_code (p Inner)).format.reads
      (sequence_layer q).format.reads sequence-extends a
  parameters-extend mode chain kind.Array s a =
      enclosed-extends levels s (array_code (p Inner)).format.reads
      (array_layer q).format.reads array_code-extends a
