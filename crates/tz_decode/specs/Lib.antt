pub mod DataClasses
