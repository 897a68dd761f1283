-- A key's memory after its device was borrowed.
use Rattle.std.specs.{Borrow.Lends, Borrow.MutBor, Borrow.Fml, Prelude.Some}
use Rattle.hidlog_c.specs.contracts.{device.Device.the_row as device_row, memory.Memory.the_row}
use Rattle.hidlog_c.specs.{Key.DeviceState, declared.memory.Memory.Memory}

-- The memory with its device replaced by another.
abbrev pub with_device : Memory → DeviceState → Memory
with_device m d = record m { device = Some d }

-- When the borrow `r` ends, the memory contains the device's last state.
abbrev pub LendsDevice : MutBor Memory → MutBor DeviceState → Fml
LendsDevice m r = Lends the_row device_row m r (with_device m.now)
