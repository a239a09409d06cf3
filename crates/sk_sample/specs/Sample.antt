-- The clock kernel and the observation file of a sample.
use Rattle.std.specs.Prelude.{ℕ, zero, suc, ◌+◌, ◌*◌, ◌%◌, ◌^◌, ℤ, pos, ◌+ℤ◌, ◌-ℤ◌, List, [], ◌++◌, codes, decimal}
use Rattle.sk_decimal.specs.Fixed.{fixed_text}

-- ---- the kernel

-- Seconds in 32 bits and their 256th parts, one partition, and one triple: tick 0 is second 0, and a count is a second.
-- The text is canonical.
unfoldable pub kernel_text : List ℕ
kernel_text = codes "KPL/SCLK\n\\begindata\nSCLK_KERNEL_ID = @2024-01-01\nSCLK_DATA_TYPE_99 = 1\nSCLK01_TIME_SYSTEM_99 = 2\nSCLK01_N_FIELDS_99 = 2\nSCLK01_MODULI_99 = (\n4294967296 256\n)\nSCLK01_OFFSETS_99 = (\n0 0\n)\nSCLK01_OUTPUT_DELIM_99 = 2\nSCLK_PARTITION_START_99 = 0\nSCLK_PARTITION_END_99 = 1099511627775\nSCLK01_COEFFICIENTS_99 = (\n0 0 1\n)\n\\begintext\n"

-- the number of its spacecraft, without NAIF's minus sign
abbrev pub spacecraft : ℕ
spacecraft = 99

-- ---- the observations

-- number k of the sequence that the seed begins
abbrev pub drawn : ℕ → ℕ → ℕ
drawn seed zero = seed
drawn seed (suc k) = (drawn seed k * 1664525 + 1013904223) % 2 ^ 32

-- how late observation k is, in nanoseconds: the clock walks by less than a tenth of a millisecond each time
abbrev pub walk : ℕ → ℕ → ℤ
walk seed zero = pos 0
walk seed (suc k) = walk seed k +ℤ (pos (drawn seed (suc k) % 200001) -ℤ pos 100000)

-- the time of observation k, in nanoseconds: one each hundred seconds
abbrev pub observed_time : ℕ → ℕ → ℤ
observed_time seed k = pos (10 ^ 11 * k) +ℤ walk seed k

-- the record of observation k at this time
abbrev pub record_text : ℕ → ℤ → List ℕ
record_text k nanoseconds = codes "s" ++ (decimal k ++ (codes ",tick:" ++ (decimal (25600 * k)
    ++ (codes ",tdt:" ++ (fixed_text 9 nanoseconds ++ codes ",0\n")))))

-- the records of the observations 1 to count
abbrev pub records : ℕ → ℕ → List ℕ
records seed zero = []
records seed (suc count) = records seed count ++ record_text (suc count) (observed_time seed (suc count))

abbrev pub observations_text : ℕ → ℕ → List ℕ
observations_text seed count = codes "id,clock,time,delay\n" ++ records seed count
