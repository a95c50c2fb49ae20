-- The derived equality of hashes decides whether they are the same, so equal views are hashed alike.
use Rattle.std.specs.Prelude.{◌≡◌}
use Rattle.std.specs.Bool.{Decides}
use Rattle.std.proofs.Common.{ap}
use Rattle.std.proofs.lemmas.Bool.Decides.{Decides-like}
use Rattle.std.proofs.lemmas.Slice.Eq.{bytes_eq-Decides}
use Rattle.am_types.specs.declared.hash.Hash.{Hash}
use Rattle.am_types.specs.contracts.hash.HashPartialEq.TheImpl.{eq-value}

pub hash_Decides : (a b : Hash) → Decides (eq-value.it a b) (a ≡ b)
hash_Decides a b = Decides-like _ (λ (e : a.0 ≡ b.0). λ i. record { 0 = e i }) (λ (e : a ≡ b). ap (λ h. h.0) e) (bytes_eq-Decides a.0 b.0)
