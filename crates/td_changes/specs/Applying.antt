-- What a trader's changes and looks come to. Each goes through its operation's causes of refusal in order, and the
-- first that is met is the outcome; IMP_LIMIT is last.
use Rattle.std.specs.Prelude.{ℕ, nat_le, Bool, true, false, ◌||◌, None}
use Rattle.td_ops.specs.declared.call.Change.{Change}
use Rattle.td_ops.specs.declared.call.Change.TheVariants as change
use Rattle.td_ops.specs.declared.call.Look.{Look}
use Rattle.td_ops.specs.declared.call.Look.TheVariants as look
use Rattle.td_ops.specs.declared.outcome.Outcome.{Outcome}
use Rattle.td_ops.specs.declared.outcome.Reply.{Reply}
use Rattle.td_ops.specs.declared.outcome.Reply.TheVariants as reply
use Rattle.td_types.specs.Calls as types
use Rattle.td_register.specs.Causes.{Effect, Cause, ChangeResult, effect_of, unless, unless_full}
use Rattle.td_register.specs.Proxies as proxies
use Rattle.td_register.specs.Registers as register
use Rattle.td_register.specs.Stores.{Store}
use Rattle.td_admin.specs.Administration as admin
use Rattle.td_admin.specs.Links as links
use Rattle.td_admin.specs.Repositories as repository
use Rattle.td_admin.specs.Repositories.{types_cause, with_types}
use Rattle.td_changes.specs.declared.bounds.Bounds.{Bounds}

-- ---- changes

-- the first cause that refuses a change, however many came before it
abbrev pub cause_of : Store → Change → Cause
cause_of s (change.Export reference service_type properties) =
    register.export_cause s reference service_type properties
cause_of s (change.Withdraw id) = register.withdraw_cause s id
cause_of s (change.Modify id deleted changed) = register.modify_cause s id deleted changed
cause_of s (change.WithdrawUsingConstraint service_type constraint) =
    register.withdraw_met_cause s service_type constraint
cause_of s (change.AddLink name target def_pass_on limiting reg) =
    links.add_link_cause s name target def_pass_on limiting reg
cause_of s (change.RemoveLink name) = links.remove_link_cause s name
cause_of s (change.ModifyLink name def_pass_on limiting) =
    links.modify_link_cause s name def_pass_on limiting
cause_of s (change.ExportProxy target service_type properties if_match_all recipe policies) =
    proxies.export_proxy_cause s target service_type properties recipe policies
cause_of s (change.WithdrawProxy id) = proxies.withdraw_proxy_cause s id
cause_of s (change.SetTruth attribute value) = None
cause_of s (change.SetNumber attribute value) = None
cause_of s (change.SetFollow attribute value) = None
cause_of s (change.SetRequestIdStem value) = admin.stem_cause value
cause_of s (change.AddType name if_name props super_types) =
    types_cause (types.add_type s.types name if_name props super_types)
cause_of s (change.RemoveType name) = types_cause (types.remove_type s.types name)
cause_of s (change.MaskType name) = types_cause (types.mask_type s.types name)
cause_of s (change.UnmaskType name) = types_cause (types.unmask_type s.types name)

-- with what it is answered, where nothing refuses it
abbrev pub acceptance : Store → Change → Reply
acceptance s (change.Export reference service_type properties) = reply.Id (register.next_id s)
acceptance s (change.ExportProxy target service_type properties if_match_all recipe policies) =
    reply.Id (register.next_id s)
acceptance s (change.SetTruth attribute value) = reply.Truth
    (admin.truth_of attribute s.attributes)
acceptance s (change.SetNumber attribute value) = reply.Number
    (admin.number_of attribute s.attributes)
acceptance s (change.SetFollow attribute value) = reply.Follow
    (admin.follow_of attribute s.attributes)
acceptance s (change.SetRequestIdStem value) = reply.Stem s.attributes.request_id_stem
acceptance s (change.AddType name if_name props super_types) = repository.added_reply s
acceptance s _ = reply.Nothing

-- the store with the change, where nothing refuses it
abbrev pub with_change : Store → Change → Store
with_change s (change.Export reference service_type properties) =
    register.with_offer s (register.exported_offer s reference service_type properties)
with_change s (change.Withdraw id) = register.without_id s id
with_change s (change.Modify id deleted changed) = register.with_modified s id deleted changed
with_change s (change.WithdrawUsingConstraint service_type constraint) =
    register.without_met s service_type constraint
with_change s (change.AddLink name target def_pass_on limiting reg) =
    links.with_link s name target def_pass_on limiting reg
with_change s (change.RemoveLink name) = links.without_named s name
with_change s (change.ModifyLink name def_pass_on limiting) =
    links.with_rules s name def_pass_on limiting
with_change s (change.ExportProxy target service_type properties if_match_all recipe policies) =
    register.with_offer s (proxies.exported_proxy s target service_type properties (record {
      if_match_all = if_match_all;
      recipe = recipe;
      policies = policies;
    }))
with_change s (change.WithdrawProxy id) = register.without_id s id
with_change s (change.SetTruth attribute value) =
    admin.set_attributes s (admin.with_truth attribute value s.attributes)
with_change s (change.SetNumber attribute value) =
    admin.set_attributes s (admin.with_number attribute value s.attributes)
with_change s (change.SetFollow attribute value) =
    admin.set_attributes s (admin.with_follow attribute value s.attributes)
with_change s (change.SetRequestIdStem value) =
    admin.set_attributes s (admin.with_stem value s.attributes)
with_change s (change.AddType name if_name props super_types) =
    with_types s (types.add_type s.types name if_name props super_types)
with_change s (change.RemoveType name) = with_types s (types.remove_type s.types name)
with_change s (change.MaskType name) = with_types s (types.mask_type s.types name)
with_change s (change.UnmaskType name) = with_types s (types.unmask_type s.types name)

-- what a change comes to, however many came before it
unfoldable pub comes_to : Store → Change → ChangeResult
comes_to s c = unless (cause_of s c) (acceptance s c) (with_change s c)

-- the same where, if so, no more changes are accepted: that is the last cause
abbrev pub comes_where : (full : Bool) → Store → Change → ChangeResult
comes_where full s c = unless_full full (cause_of s c) (acceptance s c) (with_change s c)

-- the outcome of a change, and the store behind it
abbrev pub apply : Store → Change → Effect
apply s c = effect_of s (comes_to s c)

-- ---- changes that take no memory once room for their entry in the history is there

-- what only takes away, masks or sets a value of fixed size
abbrev pub is_free : Change → Bool
is_free (change.Export reference service_type properties) = false
is_free (change.Withdraw id) = true
is_free (change.Modify id deleted changed) = false
is_free (change.WithdrawUsingConstraint service_type constraint) = false
is_free (change.AddLink name target def_pass_on limiting register) = false
is_free (change.RemoveLink name) = true
is_free (change.ModifyLink name def_pass_on limiting) = true
is_free (change.ExportProxy target service_type properties if_match_all recipe policies) = false
is_free (change.WithdrawProxy id) = true
is_free (change.SetTruth attribute value) = true
is_free (change.SetNumber attribute value) = true
is_free (change.SetFollow attribute value) = true
is_free (change.SetRequestIdStem value) = false
is_free (change.AddType name if_name props super_types) = false
is_free (change.RemoveType name) = false
is_free (change.MaskType name) = true
is_free (change.UnmaskType name) = true

-- ---- counted changes

abbrev pub most_changes : ℕ
most_changes = 1000000

-- so many changes were accepted that no more is
abbrev pub is_at_limit : Bounds → ℕ → Bool
is_at_limit bounds count = nat_le bounds.changes count || nat_le most_changes count

-- what a change comes to where so many were accepted before
unfoldable pub count_change : Bounds → (count : ℕ) → Store → Change → ChangeResult
count_change bounds count s c = comes_where (is_at_limit bounds count) s c

-- its outcome, and the store behind it
abbrev pub apply_counted : Bounds → (count : ℕ) → Store → Change → Effect
apply_counted bounds count s c = effect_of s (count_change bounds count s c)

-- ---- looks

unfoldable pub seen : Store → Look → Outcome
seen s (look.Describe id) = register.describe s id
seen s (look.DescribeLink name) = links.describe_link s name
seen s look.ListLinks = links.list_links s
seen s (look.DescribeProxy id) = proxies.describe_proxy s id
seen s (look.ListOffers how_many) = admin.list_offers s
seen s (look.ListProxies how_many) = admin.list_proxies s
seen s (look.ListTypes which) = repository.list_types s which
seen s (look.DescribeType name) = repository.describe_type s name
seen s (look.FullyDescribeType name) = repository.fully_describe_type s name
seen s (look.Get attribute) = admin.get s attribute

-- the outcome of a look, and the store's max_list; of ids the outcome has every one, and a nil iterator
abbrev pub seek : Store → Look → Outcome × ℕ
seek s l = (seen s l, s.attributes.max_list)
