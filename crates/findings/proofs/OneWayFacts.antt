-- What is no code with one way through it, and no code of numbers alone: facts by computation.
use Rattle.std.proofs.Common.{◌≡◌, refl, true, false, [], ◌∷◌, map}
use lib.Ieee.{binary64}
use mir.Syntax.{ty_int, ty_bool, ty_float, ty_ptr, ty_ref, ty_array, ty_unit, ty_struct, ty_enum, ty_param, ty_const}
use mir.Syntax.{ty_array_p, ty_named, tnil, ttnil, tcons, dnil, dcons, erased, imm, w64, local, given, detached, rattle_abi, c_bool}
use mir.Syntax.{Callee, fn, method, forked, awaited, prim, unreachable, call_v, lend_static}
use mir.Syntax.{value_local, opd_true, Body, skip, seq, place, block, loop, cond, switch, no_default, exit, return, call}
use Rattle.findings.specs.OneWay.{is_among, is_call_of, one_way, is_number, numbers_alone}

abbrev calls : Body
calls = call (fn "other" (tnil, dnil)) [] (place 0 [])

-- a block, a loop, a branch, a switch, a jump, a call of another function; and such a call before or after others
pub more_ways : map (one_way ("known" ∷ []))
    (block skip ∷ loop skip ∷ cond opd_true skip skip ∷ switch opd_true no_default ∷ exit 0 ∷ calls ∷ seq calls return
    ∷ seq skip calls ∷ [])
    ≡ false ∷ false ∷ false ∷ false ∷ false ∷ false ∷ false ∷ false ∷ []
unfolding one_way is_among is_call_of
more_ways = refl

abbrev known : Callee
known = fn "known" (tnil, dnil)

-- a call of a trait's method, of a thread that runs the known function, of a thread's end or of an atomic step; a body
-- that is never reached, a call through a pointer, a constant lent, and another function's call at a type or a bound
pub more_ways_still : map (one_way ("known" ∷ []))
    (call (method (given 0) 0 (tnil, dnil)) [] (place 0 []) ∷ call (forked tnil known) [] (place 0 [])
    ∷ call (awaited tnil) [] (place 0 []) ∷ call (prim detached) [] (place 0 []) ∷ unreachable
    ∷ call_v opd_true (rattle_abi, tnil) [] (place 0 []) ∷ lend_static (place 0 []) ty_bool (c_bool true)
    ∷ call (fn "other" (tcons ty_bool tnil, dnil)) [] (place 0 [])
    ∷ call (fn "other" (tnil, dcons (given 0) dnil)) [] (place 0 []) ∷ [])
    ≡ false ∷ false ∷ false ∷ false ∷ false ∷ false ∷ false ∷ false ∷ false ∷ []
unfolding one_way is_among is_call_of
more_ways_still = refl

-- every other type
pub no_numbers : map is_number
    (ty_float binary64 ∷ ty_ptr ∷ ty_ref erased imm (ty_int w64) ∷ ty_array (ty_int w64) 4 ∷ ty_unit ∷ ty_struct [] tnil
    ∷ ty_enum [] ttnil ∷ ty_named ([], []) tnil ∷ [])
    ≡ false ∷ false ∷ false ∷ false ∷ false ∷ false ∷ false ∷ false ∷ []
unfolding is_number
no_numbers = refl

-- a type parameter, a constant one, and an array whose length is one
pub no_numbers_still : map is_number (ty_param 0 ∷ ty_const 0 ∷ ty_array_p (ty_int w64) 0 ∷ []) ≡ false ∷ false ∷ false ∷ []
unfolding is_number
no_numbers_still = refl

-- one variable of them, the first or the last, is enough
pub not_alone : map numbers_alone ((local ty_ptr value_local ∷ local ty_bool value_local ∷ [])
    ∷ (local ty_bool value_local ∷ local ty_ptr value_local ∷ []) ∷ [])
    ≡ false ∷ false ∷ []
unfolding numbers_alone is_number
not_alone = refl
