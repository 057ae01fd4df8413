-- When two contexts of translations are the same.
use Rattle.std.proofs.Common.{◌≡◌, true}
use Rattle.arch_defs.specs.Roots.{is_atp, is_root}
use Rattle.arch_defs.proofs.SameRoots.{atp_same, root_same}
use Rattle.translation_buffer.specs.declared.contexts.Context.{Context}

pub same_context : (a b : Context) → is_atp a.first b.first ≡ true → is_root a.second b.second ≡ true → a.mxr ≡ b.mxr → a ≡ b
same_context a b first second mxr =
    λ i. record { first = atp_same a.first b.first first i; second = root_same a.second b.second second i; mxr = mxr i }
