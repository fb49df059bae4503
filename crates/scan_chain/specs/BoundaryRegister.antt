-- The boundary-scan register behind the TAP of IEEE 1149.1, clock by clock. A list of cells begins with cell 0, the one
-- nearest TDO.
use Rattle.std.specs.Prelude.{ℕ, suc, Bool, true, false, cond, ◌&&◌, List, [], ◌∷◌, ◌++◌, get_or, drop}
use Rattle.words.specs.Bits.{has, bit_value}
use Rattle.scan_chain.specs.Tap.{TapState, next, Action, hold, capture, shift, update, release, action}

-- The TAP's state, whether EXTEST is the instruction, the shift-register stages of the cells, and their latched parallel
-- outputs, which drive the board.
pub record Chain : Type 0 where
  pub state : TapState
  pub extest : Bool
  pub register : List Bool
  pub outputs : List Bool

-- What lies outside, at each clock: the cells' parallel inputs while these outputs are driven, and what a pod reads on
-- TDO while nothing of the register is shifted: anything.
pub record Outside : Type 0 where
  pub inputs : ℕ → (outputs : List Bool) → List Bool
  pub undriven : ℕ → Bool

-- what the register does now
unfoldable pub doing : Chain → Action
doing chain = cond chain.extest (action chain.state) hold

-- the register after a rising edge of TCK: loaded in Capture-DR, moved one cell towards TDO in Shift-DR
unfoldable pub clocked : Action → (inputs register : List Bool) → Bool → List Bool
clocked hold inputs register tdi = register
clocked capture inputs register tdi = inputs
clocked shift inputs register tdi = drop 1 register ++ tdi ∷ []
clocked update inputs register tdi = register
clocked release inputs register tdi = register

-- the contents that a falling edge updates, none or one
unfoldable pub updated : Action → List Bool → List (List Bool)
updated hold register = []
updated capture register = []
updated shift register = []
updated update register = register ∷ []
updated release register = []

-- the outputs after it
unfoldable pub latched : List (List Bool) → List Bool → List Bool
latched [] outputs = outputs
latched (contents ∷ more) outputs = contents

unfoldable pub keeps_extest : Action → Bool
keeps_extest hold = true
keeps_extest capture = true
keeps_extest shift = true
keeps_extest update = true
keeps_extest release = false

-- TDO as a pod reads it at the rising edge: cell 0 while shifting
unfoldable pub tdo : Action → (register : List Bool) → Bool → Bool
tdo hold register undriven = undriven
tdo capture register undriven = undriven
tdo shift register undriven = get_or register 0 false
tdo update register undriven = undriven
tdo release register undriven = undriven

-- one clock, a byte with TMS in bit 0 and TDI in bit 1: the rising edge of TCK, then the falling one
unfoldable pub rising : List Bool → Chain → ℕ → Chain
rising inputs chain byte = record {
  state = next chain.state (has byte 0);
  extest = chain.extest;
  register = clocked (doing chain) inputs chain.register (has byte 1);
  outputs = chain.outputs;
}

unfoldable pub falling : Chain → Chain
falling chain = record {
  state = chain.state;
  extest = chain.extest && keeps_extest (action chain.state);
  register = chain.register;
  outputs = latched (updated (doing chain) chain.register) chain.outputs;
}

-- What a list of bytes leads to: the state after each clock, the contents updated, in order, TDO clock by clock as bytes
-- 0 and 1, and the chain at the end.
pub record Run : Type 0 where
  pub states : List TapState
  pub updates : List (List Bool)
  pub tdo : List ℕ
  pub end : Chain

-- the bytes, run from clock t on
unfoldable pub run : Outside → ℕ → Chain → List ℕ → Run
run outside t chain [] = record { states = []; updates = []; tdo = []; end = chain }
run outside t chain (byte ∷ bytes) =
    let up = rising (outside.inputs t chain.outputs) chain byte in
    let rest = run outside (suc t) (falling up) bytes in
    record {
      states = up.state ∷ rest.states;
      updates = updated (doing up) up.register ++ rest.updates;
      tdo = bit_value (tdo (doing chain) chain.register (outside.undriven t)) ∷ rest.tdo;
      end = rest.end;
    }
