-- The null value is good.
use Rattle.std.proofs.Common.{◌≡◌, ℕ, ◌<◌, ◌≤◌, [], inl, inr, ◌⊎◌, refl, arith}
use Rattle.am_types.specs.Bytes.{IsBytes}
use Rattle.am_types.specs.Values.{Good}
use Rattle.am_values.specs.Columns.{null_value}

no_bytes : IsBytes []
no_bytes = λ k d (h : k < 0). absurd (omega arith)

no_signed : (kind : ℕ) → kind ≡ 0 → (kind ≡ 4) ⊎ (kind ≡ 8) ⊎ (kind ≡ 9) → ⊥
no_signed kind z (inl e) = omega arith
no_signed kind z (inr (inl e)) = omega arith
no_signed kind z (inr (inr e)) = omega arith

no_kind : (kind n : ℕ) → kind ≡ 0 → 1 ≤ n → kind ≡ n → ⊥
no_kind kind n z some e = omega arith

pub null_good : Good null_value
null_good = record {
  kind = omega arith;
  short = omega arith;
  bytes = no_bytes;
  empty = λ e. refl;
  unsigned = λ e. absurd (no_kind 0 3 refl (omega arith) e);
  signed = λ e. absurd (no_signed 0 refl e);
  float = λ e. absurd (no_kind 0 5 refl (omega arith) e);
  text = λ e. absurd (no_kind 0 6 refl (omega arith) e);
}
