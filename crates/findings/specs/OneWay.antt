-- Compiled code that has one way through it, and code of numbers alone.
use Rattle.std.specs.Prelude.{Bool, true, false, ◌&&◌, ◌||◌, List, [], ◌∷◌}
use lib.Text.{eqt}
use mir.Syntax.{Ty, ty_int, ty_bool, ty_float, ty_ptr, ty_ref, ty_array, ty_unit, ty_struct, ty_enum, ty_param, ty_const}
use mir.Syntax.{ty_array_p, ty_named, Local, local, Symbol, Callee, fn, method, forked, awaited, prim}
use mir.Syntax.{Body, skip, seq, assign, block, loop, cond, switch, exit, return, call, unreachable, call_v, lend_static}

unfoldable pub is_among : List Symbol → Symbol → Bool
is_among [] name = false
is_among (known ∷ rest) name = eqt known name || is_among rest name

-- the call of one of these functions
unfoldable pub is_call_of : (called : List Symbol) → Callee → Bool
is_call_of called (fn name arguments) = is_among called name
is_call_of called (method dictionary number arguments) = false
is_call_of called (forked types callee) = false
is_call_of called (awaited types) = false
is_call_of called (prim act) = false

-- no branch, loop or jump, and no call but of these functions
unfoldable pub one_way : (called : List Symbol) → Body → Bool
one_way called skip = true
one_way called (seq start rest) = one_way called start && one_way called rest
one_way called (assign target value) = true
one_way called (block body) = false
one_way called (loop body) = false
one_way called (cond test then otherwise) = false
one_way called (switch number arms) = false
one_way called (exit count) = false
one_way called return = true
one_way called (call callee operands target) = is_call_of called callee
one_way called unreachable = false
one_way called (call_v pointer signature operands target) = false
one_way called (lend_static target type value) = false

-- an integer or a bool
unfoldable pub is_number : Ty → Bool
is_number (ty_int width) = true
is_number ty_bool = true
is_number (ty_float format) = false
is_number ty_ptr = false
is_number (ty_ref lifetime mutability type) = false
is_number (ty_array type count) = false
is_number ty_unit = false
is_number (ty_struct name fields) = false
is_number (ty_enum name variants) = false
is_number (ty_param number) = false
is_number (ty_const number) = false
is_number (ty_array_p type number) = false
is_number (ty_named name arguments) = false

-- the result, every parameter and every variable is a number: the code has no array, and no reference to one
unfoldable pub numbers_alone : List Local → Bool
numbers_alone [] = true
numbers_alone (local type home ∷ rest) = is_number type && numbers_alone rest
