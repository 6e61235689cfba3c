-- classes that wait, the keys of classes, and rows that go alike by them
pub mod Keys
