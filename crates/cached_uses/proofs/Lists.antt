-- What serves an access, as a list of uses.
use Rattle.std.proofs.Common.{◌≡◌, refl, sym, ◌∙◌, ap, ℕ, ◌/◌, Bool, true, false, cond, List, [], ◌∷◌, ◌++◌, Option, Some, None}
use Rattle.std.proofs.lemmas.List.{append-nil}
use Rattle.arch_defs.specs.declared.cached.Entry.{Entry}
use Rattle.arch_defs.specs.declared.modes.Access.{Access}
use Rattle.arch_defs.specs.declared.registers.Virtual.{Virtual}
use Rattle.arch_defs.specs.CachedEntries.{entry_at, leaf_of}
use Rattle.arch_defs.specs.Permits.{permits_second}
use Rattle.arch_defs.specs.WalkedEntries.{folds}
use Rattle.run_log.specs.declared.uses.Use.{Use}
use Rattle.run_log.specs.declared.uses.Use.TheVariants.{Second}
use Rattle.run_log.specs.Uses.{second_if, second_uses}
use Rattle.cached_uses.specs.Serving.{second_list, second_permitted, second_served}

second_is : (virt : Virtual) (entries : List Entry) (address : ℕ) (kind : Access)
    → second_uses virt entries address kind ≡ second_list address kind (second_served virt entries address kind)
second_is virt entries address kind = by (folds virt)
  where
    permitted : (e : Entry) (right : Bool)
        → cond right (Second e address kind ∷ []) [] ≡ second_list address kind (cond right (Some e) None)
    permitted e true = refl
    permitted e false = refl

    found : (e : Option Entry) → second_if virt address kind e ≡ second_list address kind (second_permitted virt kind e)
    found (Some e) = permitted e (permits_second virt.csrs.hs.status.mxr kind (leaf_of e))
    found None = refl

    by : (folding : Bool) → cond folding (second_if virt address kind (entry_at (address / 4096) entries)) []
        ≡ second_list address kind (cond folding (second_permitted virt kind (entry_at (address / 4096) entries)) None)
    by true = found (entry_at (address / 4096) entries)
    by false = refl

pub second_added : (virt : Virtual) (entries : List Entry) (address : ℕ) (kind : Access) (e : Entry) (before after : List Use)
    → second_served virt entries address kind ≡ Some e → after ≡ before ++ Second e address kind ∷ []
    → after ≡ before ++ second_uses virt entries address kind
second_added virt entries address kind e before after served added =
    added ∙ ap (λ us. before ++ us) (sym (second_is virt entries address kind ∙ ap (second_list address kind) served))

pub second_nothing : (virt : Virtual) (entries : List Entry) (address : ℕ) (kind : Access) (uses : List Use)
    → second_served virt entries address kind ≡ None → uses ≡ uses ++ second_uses virt entries address kind
second_nothing virt entries address kind uses none =
    sym (ap (λ xs. uses ++ xs) (second_is virt entries address kind ∙ ap (second_list address kind) none) ∙ append-nil uses)

pub ruleset second_rules = (second_added, second_nothing)
