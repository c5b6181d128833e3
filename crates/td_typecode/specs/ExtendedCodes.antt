-- The format of TypeCodes with indirections extends the one without.
use Rattle.std.specs.Prelude.{ℕ, zero, suc, nat_lt, Bool, true, false, cond, List, [], ◌∷◌, ◌++◌, length}
use Rattle.std.specs.Prelude.{Ok, Err}
use Rattle.std.proofs.Common.{◌≡◌, refl, ap, subst, ◌∙◌, append_assoc, length-append}
use Rattle.td_cdr.specs.Place.{At}
use Rattle.td_cdr.specs.Format.{◌>>=◌}
use Rattle.td_cdr.specs.declared.value_fault.ValueFault.{ValueFault}
use Rattle.td_typecode.specs.declared.code.TypeCode.{TypeCode, out-TypeCode}
use Rattle.td_typecode.specs.declared.kinds.CodeKind.{CodeKind}
use Rattle.td_typecode.specs.Kinds.{kind_at, deep_kind}
use Rattle.td_typecode.specs.Labels.{no_value}
use Rattle.td_typecode.specs.Codes.{parameters, code_formats, codes, no_arm}
use Rattle.td_indirection.specs.States.{slot, put, with_blank, with_node}
use Rattle.td_indirection.specs.Stateful.{Sound, tag_place}
use Rattle.td_indirection.specs.Tables.{put-seam}
use Rattle.td_indirection.specs.Variants.{variant}
use Rattle.td_indirection.specs.NodeStarts.{node}
use Rattle.td_typecode.specs.Known.{Numbers, KnownNode, KnownState, KnownSlot, node_with_layer, unread_node}
use Rattle.td_typecode.specs.GraphCodes.{most_nodes, too_many_nodes, kind_or_indirection, behind, edges}
use Rattle.td_typecode.specs.GraphCodes.{parameters as graph_parameters}
use Rattle.td_typecode.specs.Extension.{PlainReading, ReadsLike, ReadsAlike, same, NodeOf, Laid, GrowsBy}
use Rattle.td_typecode.specs.Extension.{CodesAreExtended}
use Rattle.td_typecode.specs.Followed.{made_on, edges-keeps, led_to-leads}
use Rattle.td_typecode.specs.Extending.{plain-extends, end-extends, depth-any}
use Rattle.td_typecode.specs.ExtendedKinds.{kinds-extended, kind-extends}
use Rattle.td_typecode.specs.Parameters.{NodeIn, parameters-extend}

-- the same of what is known of the node
abbrev KnownIn : ℕ → CodeKind → KnownState → TypeCode → KnownNode → KnownState → Type 0
KnownIn levels k s t n new = (v : Numbers) × (n ≡ node_with_layer k v) × NodeIn levels s t v new

node-grows : (levels place : ℕ) (k : CodeKind) (s : KnownState) (t : TypeCode) (n : KnownNode)
    (m : KnownState)
    → KnownIn levels k (with_blank (unread_node k) place s) t n m
    → GrowsBy (suc levels) s t (length s.table) (with_node m (length s.table) n)
unfolding Laid
node-grows levels place k s t n m (v, is, (more, e, nd)) =
    let count = length s.table in
    let blank : KnownSlot = slot place (unread_node k) in
    let filled : KnownState → KnownState = λ (x : KnownState). with_node x count
    (node_with_layer k v) in
    let with_table : List KnownSlot → KnownState =
    λ (x : List KnownSlot). record { base = s.base; table = x; linked = s.linked } in
    let there : put ((s.table ++ blank ∷ []) ++ more) count (node_with_layer k v)
    ≡ s.table ++ slot place (node_with_layer k v) ∷ more =
    ap (λ (x : List KnownSlot). put x count (node_with_layer k v))
    (append_assoc s.table (blank ∷ []) more)
    ∙ put-seam s.table blank more (node_with_layer k v) in (
      slot place (node_with_layer k v) ∷ more,
      ap (λ (x : KnownNode). with_node m count x) is ∙ ap filled e ∙ ap with_table there,
      refl,
      (
        place,
        k,
        v,
        more,
        refl,
        subst (λ (i : ℕ). NodeOf (Laid levels) (out-TypeCode t) i v more)
            (length-append s.table (blank ∷ [])) nd,
      ),
    )

node-extends : (levels : ℕ) (k : CodeKind) (tag : At) (s : KnownState) (p : PlainReading TypeCode)
    (t : Sound ValueFault KnownNode Numbers)
    → ((s : KnownState) → ReadsAlike (NodeIn levels s) s p t.format.reads)
    → ReadsAlike (GrowsBy (suc levels) s) s p
    (λ s. (node most_nodes too_many_nodes (unread_node k)
    (variant (node_with_layer k) (λ n. n.layer) (λ _. refl) t)).format.reads tag s)
node-extends levels k tag s p t j a = go (nat_lt (length s.table) most_nodes)
  where
    go : (b : Bool) → ReadsLike (GrowsBy (suc levels) s) (p a)
        (cond b (made_on (node_with_layer k) t.format.reads
        (with_blank (unread_node k) (tag_place s tag) s) a
        >>= λ v. Ok ((length s.table, with_node v.0.1 (length s.table) v.0.0), v.1))
        (Err (too_many_nodes tag)))
    go true =
        let inner = with_blank (unread_node k) (tag_place s tag) s in
        end-extends (KnownIn levels k inner) (GrowsBy (suc levels) s) (p a)
        (made_on (node_with_layer k) t.format.reads inner a)
        (λ n m. length s.table) (λ n m. with_node m (length s.table) n)
        (end-extends (NodeIn levels inner) (KnownIn levels k inner) (p a) (t.format.reads inner a)
        (λ v m. node_with_layer k v) (λ v m. m) (j inner a) (λ x v m r. (v, refl, r)) (λ v m f. f))
        (node-grows levels (tag_place s tag) k s) (λ n m f. f)
    go false = depth-any (GrowsBy (suc levels) s) (p a) (too_many_nodes tag) tt

pub codes-extended : CodesAreExtended
unfolding code_formats
codes-extended zero mode chain s a =
    plain-extends (GrowsBy zero s) ((deep_kind mode).format.reads a)
    (λ k. (no_arm k.0).format.reads k.1) (λ k. Err (no_value k.1)) (λ k. same refl)
codes-extended (suc levels) mode chain s a =
    let kinds = kinds-extended mode a in
    kind-extends (GrowsBy (suc levels) s) ((kind_at mode).format.reads a)
    ((kind_or_indirection mode).format.reads a) kinds.0
    (λ k. (parameters levels (codes levels) mode k.0).format.reads k.1)
    (λ k next. (behind (edges levels) mode chain k).format.reads a s next) kinds.1
    (led_to-leads mode chain s kinds.0)
    (λ k. node-extends levels k.0 a s (parameters levels (codes levels) mode k.0).format.reads
    (graph_parameters (edges levels) mode chain k.0)
    (parameters-extend levels (codes levels) (edges levels) (codes-extended levels)
    (edges-keeps levels) mode chain k.0) k.1)
