-- The first bytes of a name as one number, by which most names are told apart.
--     spelled n k xs     the number whose digits in base 256 are those of n and behind them the first k of xs, where there are
--                        fewer with zeros behind these
--     front_of xs        the first 16 bytes
--     front_at x         the front of the name at which an operation stands, if it stands at one
--     is_root o          the object o is the root
use Rattle.std.specs.Prelude.{ℕ, zero, suc, ◌+◌, ◌*◌, Bool, true, false, List, [], ◌∷◌}
use Rattle.am_types.specs.declared.ObjId.{ObjId}
use Rattle.am_types.specs.declared.ObjId.TheVariants.{Root, Made}
use Rattle.am_types.specs.Operations.{Operation}
use Rattle.am_merge.specs.Walk.{name_in}

abbrev pub spelled : ℕ → ℕ → List ℕ → ℕ
spelled n zero xs = n
spelled n (suc k) [] = spelled (n * 256) k []
spelled n (suc k) (x ∷ xs) = spelled (n * 256 + x) k xs

abbrev pub front_of : List ℕ → ℕ
front_of xs = spelled 0 16 xs

abbrev pub front_at : Operation → ℕ
front_at x = front_of (name_in x.op.key)

abbrev pub is_root : ObjId → Bool
is_root Root = true
is_root (Made i) = false
