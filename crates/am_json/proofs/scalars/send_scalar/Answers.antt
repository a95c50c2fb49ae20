use Rattle.std.proofs.Common.{◌≡◌, codes, refl, sym, ap, ◌∙◌}
use Rattle.am_types.specs.Values.{number_of}
use Rattle.am_types.specs.declared.Entry.{Entry}
use Rattle.am_types.specs.declared.RawValue.{RawValue}
use Rattle.am_json.specs.Shown.{scalar, tagged, number_data}
use Rattle.am_json.proofs.scalars.send_scalar.Goals as goal

scalar_time : (e : Entry) → e.value.kind ≡ 9 → scalar e ≡ tagged (codes "$time") (number_data (number_of e.value))
scalar_time e h = rw h refl

pub returns-in-9 : goal.returns-in-9
returns-in-9 g c =
    let kind : c.args.entry.now.entry.value.kind ≡ 9 = ap (λ (v : RawValue). v.kind) (sym c.value-value.ensures) ∙ c.in-9.is in
    rw (scalar_time c.args.entry.now.entry kind, ← c.value-value.ensures) c.send_time.ensures
