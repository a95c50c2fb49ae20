use Rattle.std.proofs.Common.{sym, subst, ◌≡◌, ◌-◌, drop, take, length, arith}
use Rattle.std.specs.Str.{IsUtf8}
use Rattle.std.proofs.lemmas.List.{take_all, length-drop}
use Rattle.am_runs.proofs.ItemIs.{text_behind}
use Rattle.am_runs.proofs.value.text_in.Goals as goal

pub known_text-requires : goal.known_text-requires
known_text-requires c =
    let x = c.args.item.now in
    let whole : take (length x - c.in-Ok.len) (drop c.in-Ok.len x) ≡ drop c.in-Ok.len x = take_all (length x - c.in-Ok.len) (drop c.in-Ok.len x) (omega (arith, length-drop c.in-Ok.len x)) in
    subst IsUtf8 (sym whole) (text_behind x _ c.in-Ok.len c.requires c.in-Ok.ensures.exact)
