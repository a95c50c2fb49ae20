use Rattle.std.proofs.Common.{◌*◌, ◌/◌, ◌<◌, ◌^◌, ◌∙◌, take, drop, ap, subst, arith}
use Rattle.std.specs.Str.{IsAscii}
use Rattle.am_values.proofs.Alike.{alike_ascii}
use Rattle.am_values.proofs.cutting.behind_ascii.Goals as goal

pub returns-then-is_ascii : goal.returns-then-is_ascii
returns-then-is_ascii c =
    let raw = c.args.raw.now in
    let size = c.in-Some.ensures.1 in
    let ascii : IsAscii (take (c.args.count * (c.args.number / 16)) raw) = subst (λ m. IsAscii (take m raw)) size (subst IsAscii c.split_at.ensures.front c.if-is_ascii.ensures.cases) in
    let small : c.args.number < 2 ^ 64 = omega (arith, c.ranges.number.fits) in
    (alike_ascii c.args.count c.args.number raw c.requires small (omega (arith, size, c.if-size-raw.false)) c.slice_known.ensures ascii, c.split_at.ensures.back ∙ ap (λ m. drop m raw) size)
